pub mod Laws
pub mod Encoding
pub mod Correspondence
