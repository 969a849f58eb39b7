pub mod Statuses
pub mod Runs
pub mod Verdicts
pub mod Endings
