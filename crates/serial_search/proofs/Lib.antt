-- ---- trails and steps
-- members of lists, and clauses that hold only negations of some literals
pub mod Negations
-- the literals of a trail that were assumed, and its causes
pub mod Trails
-- the causes of a trail, replayed, lead to a conflict
pub mod Replays
-- log and engine over one problem, as both grow
pub mod Links
-- ---- the search
-- what a side closes, and the sides of a split merged
pub mod Closings
-- why an answer is right
pub mod Answers
