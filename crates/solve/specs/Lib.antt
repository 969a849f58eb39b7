-- which questions may be asked, and which texts answer them
pub mod Questions
pub mod Answers
-- what is written of bytes
pub mod Reports
-- how a run ends
pub mod Statuses
pub mod Transfers
pub mod Endings
