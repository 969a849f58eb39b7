-- which lists a check takes, and what it answers
pub mod Countable
pub mod Checks
-- what a hint names, as the code has it
pub mod NamedRules
