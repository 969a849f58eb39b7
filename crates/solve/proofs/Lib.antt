-- one answer put behind the others, and what it tells
pub mod MoreAnswers
pub mod Told
-- what is told of bytes excludes what else may be
pub mod OneReport
-- what a run read and wrote makes a row of the table of statuses
pub mod RowsOfStatuses
