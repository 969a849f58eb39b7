pub mod Causes
pub mod Supply
pub mod Store
pub mod Adapted
pub mod Exits
pub mod Outside
