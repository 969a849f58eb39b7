-- what contracts of an engine cite
pub mod Trails
pub mod Constraints
pub mod Causes
pub mod Firings
pub mod Engines
-- what its parts cite
pub mod Views
pub mod Statuses
pub mod Occurrences
pub mod Stores
pub mod Queues
