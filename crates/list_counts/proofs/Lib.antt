-- ---- lists
-- the entries of lists, by their places
pub mod Entries
-- facts of each entry
pub mod Facts
-- how many entries pass a test
pub mod Counts
-- ---- numbers
-- lists that have each of some numbers once
pub mod Numbers
-- images of the numbers below n, of which exactly one passes a test
pub mod Ones
-- atoms by row and column
pub mod Atoms
-- ---- positions
-- clean wishes are filled
pub mod CleanWishes
-- each position is taken once, where each pot has one team
pub mod Positions
