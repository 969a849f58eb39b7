-- the negation of a clause assumed: each literal is in range and unset when its turn comes
pub mod Clauses
-- what the answer of a check says of the list
pub mod FirstBad
