pub mod Characters
pub mod Kinds
pub mod Teams
pub mod Answers
pub mod Members
pub mod Heads
pub mod Codes
pub mod Faults
