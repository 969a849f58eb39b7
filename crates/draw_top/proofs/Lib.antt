-- ---- the words of a call
-- one word that is a text
pub mod Words
-- ---- the answer text
-- one command, by a turn that is given what it wants
pub mod TurnSteps
-- one more line is answered
pub mod OneMoreLine
-- the answer text is a function of the input
pub mod OneAnswer
-- ---- how a call ends
-- what was read to its end is what the source held, and which status its bytes decide for
pub mod WhatWasRead
-- an input is approved of, objected to or refused, and one of them only
pub mod TableVerdicts
-- what a call read and wrote makes a row of the table of statuses
pub mod RowsOfStatuses
