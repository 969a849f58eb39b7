-- ---- heads
-- values that passed a test when they were read
pub mod ReadValues
-- the teams of a head by their codes
pub mod CodedTeams
-- ---- tags and fixed places
-- the team that is refused is the first one with a tag that no limit names
pub mod UnknownTagLaws
-- the place that is refused is the first one that is not right
pub mod BadPlaceLaws
-- what is looked up in a head, one item at a time
pub mod LookUpSteps
-- ---- files
-- the file of a group draw has its form
pub mod GroupForms
-- a well-formed file has its form
pub mod FileForms
-- ---- forbidden pairs
-- the pair that is refused is the first one that names no two teams
pub mod PairLaws
-- the pairs of a file name the teams that have the codes of the head's pairs
pub mod NamedPairLaws
-- ---- faults
-- what bytes are refused for is their first fault
pub mod FaultLaws
