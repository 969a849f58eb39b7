-- ---- states
-- what a phase tells of the kind and of the team that it waits for
pub mod Phases
-- which moves leave the positions of a state clean
pub mod CleanStates
-- ---- questions and answers
-- few candidates and few moves: a u32 numbers them
pub mod FewMoves
-- questions of states, and their places
pub mod StateQuestions
-- ---- standings
-- how candidates stand by one answer or by many, and what is offered then
pub mod Standings
-- ---- turns
-- the offers that a command needs, one after another
pub mod TurnNeeds
-- the first of the offered groups
pub mod TurnGroups
-- what the course of a turn says of it
pub mod TurnCourses
