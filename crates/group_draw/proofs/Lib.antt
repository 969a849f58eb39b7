-- ---- teams and files
-- teams by a test, and how many of them pass another
pub mod Teams
-- what a state's moves say: each team takes one group and one position
pub mod StateMoves
-- what the form of a file says of its atoms and fixed places
pub mod FixedPlaces
-- ---- the count problem
-- values that agree with a table satisfy the rules where the groups keep theirs
pub mod Agreeing
-- the two ways to agree
pub mod Reading
-- the rules of a file are well formed
pub mod FormedRules
-- ---- positions
-- what is known of a group's positions can be met at once
pub mod Wishes
-- the places that groups give, with the positions filled
pub mod FilledPlaces
-- such a table is legal and extends the moves
pub mod FilledTables
-- ---- tables and assignments
-- a state is completable where its rules and literals can be satisfied
pub mod Existence
-- moves that can be completed have clean positions
pub mod CleanMoves
-- a state has an offer
pub mod Offers
