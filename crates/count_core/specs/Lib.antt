-- problems: which rules make one, and which fault is reported of the others
pub mod Limits
pub mod Problems
pub mod FirstFaults
-- assignments: whole ones and what they satisfy; partial ones, and the trail that undoes them
pub mod Assignments
pub mod PartialAssignments
pub mod Trails
-- steps: which are accepted, which hint fails, and what a refutation is
pub mod Steps
pub mod FailingHints
-- laws, and a worked problem
pub mod Laws
pub mod Decisions
pub mod Clash
