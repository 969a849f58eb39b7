-- ---- lists of steps
-- the last step, and the lemmas and refutations that begin a log
pub mod LastSteps
-- in an accepted list each hint names a rule or an earlier step
pub mod EarlierSteps
-- accepted steps put behind others, with shifted hints
pub mod Shifting
-- candidate hints that are kept
pub mod KeptHints
-- they are there where some candidates lead to a conflict
pub mod PartLeads
-- ---- sides joined
-- literals of lists over different atoms, and the clause that joins two sides
pub mod JoinedLits
-- the step that joins two sides is accepted
pub mod JoinedSteps
-- ---- cones
-- marks of the steps that a step reaches, set from the last step down
pub mod Marking
-- the steps of a set that is closed under hints, renumbered
pub mod Sublists
