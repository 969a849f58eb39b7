-- ---- offers
-- each state of a pairing has an offer
pub mod Existence
-- ---- the count problem
-- atoms as numbers, and lists over the numbers below n
pub mod AtomNumbers
-- lists with their places, joined and filtered lists, and the places of teams
pub mod PlacedLists
-- the rules of a file are well formed
pub mod FormedRules
-- a state's pairs are of the file and pair each winner once, and so are their literals
pub mod StateMoves
-- ---- tables and assignments
-- the table of a pairing
pub mod PairTables
-- the values of a legal table satisfy the rules and the literals of the moves that it extends
pub mod TableValues
-- a table that is read off values that satisfy them is legal and extends the moves
pub mod ReadTables
