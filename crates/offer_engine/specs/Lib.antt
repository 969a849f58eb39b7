pub mod Encodings
pub mod Questions
pub mod Offers
pub mod Turns
pub mod Courses
pub mod Faults
pub mod Laws
