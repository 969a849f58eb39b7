-- ---- lists
-- tests, facts of each element, counts, places of two lists put together, a list written back
pub mod Lists
-- ---- problems
-- a mark at each atom of some literals: whether two are over one atom
pub mod Marks
-- which rules make a problem, and their literals' atoms by places
pub mod Rules
-- the fault that is reported is the first
pub mod FirstFaults
-- ---- partial assignments
-- the value of an atom, and literals made true or false
pub mod Assigning
-- the value of one atom after literals are made true or false
pub mod AtomValues
-- what was set, noted on a trail and unset again
pub mod Trails
-- the negation of a clause assumed literal by literal
pub mod AssumedNegations
-- what a rule says by the numbers of its true and false literals
pub mod RuleEffects
-- assignments that extend a partial one, whole ones and partial ones
pub mod Agreement
pub mod Extensions
-- ---- steps
-- hints checked one by one, and acceptance as a whole
pub mod HintChecks
-- the failing hint that is reported of a step is its failing hint
pub mod FailingHints
-- every clause of an accepted list follows
pub mod Soundness
-- accepted lists taken apart, put together and renumbered
pub mod Renumbering
-- ---- questions
-- a problem with a question is satisfiable or not
pub mod Decisions
