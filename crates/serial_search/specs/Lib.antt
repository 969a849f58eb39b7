pub mod Answers
pub mod Assumptions
pub mod Sides
