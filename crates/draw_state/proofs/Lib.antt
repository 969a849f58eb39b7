-- ---- one command
-- the first cause that refuses a command, cause by cause, and when none does
pub mod Refusals
-- of each command exactly one thing is true
pub mod Outcomes
-- ---- group draws
-- what the phase of a group draw says of the moves
pub mod GroupPhases
-- a team that waits for its group has a first possible one
pub mod FirstGroups
-- ---- steps and runs
-- what an accepted ball adds
pub mod Added
-- the group that a reply tells
pub mod ToldGroups
-- taking off the last ball
pub mod TakenOff
-- next lines, steps and runs
pub mod Steps
-- ---- tables drawn ball by ball
-- what a legal group table gives
pub mod TablePlaces
-- what the balls of one team change of what the moves say
pub mod TableMoves
-- runs of balls that are taken, and how many balls a table has
pub mod TableRuns
-- each legal group table is drawn ball by ball
pub mod TableDraws
