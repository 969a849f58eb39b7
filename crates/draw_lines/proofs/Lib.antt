-- ---- lines of an input
-- the first piece of bytes, and lines without their ends
pub mod FirstPiece
-- the pieces are the bytes cut into lines, and what stands before and after the separator
pub mod PiecesAndSeparator
-- ---- texts
-- the last move of a ball, whose line is told
pub mod LastMove
