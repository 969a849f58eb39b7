pub mod Encoding
pub mod Decoding
pub mod Correspondence
pub mod Laws
pub mod Worked
