-- ---- codes
-- a code is text
pub mod CodeTexts
-- the set of the teams' codes, in file order, finds the first team with a code
pub mod CodeSets
-- finding a code, and the first code that stands twice, in the subject's own words
pub mod CodeLaws
-- ---- reading
-- the elements of a list of values
pub mod Elements
-- the members of the teams, read one team at a time
pub mod TeamReading
-- ---- heads and their faults
-- a head that was read: what each step gave, and that it has no fault
pub mod HeadLaws
-- the first pot that has not one team for each group
pub mod UnevenPots
-- what each step of reading says of the value: its part of the head, or the fault of its number
pub mod FaultSteps
-- the fault that is told is the first of the table
pub mod FaultTable
