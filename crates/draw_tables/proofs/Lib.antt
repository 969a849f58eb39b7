-- ---- numbers and lists
-- numbers, and teams by their numbers
pub mod Numbers
-- items of lists by their places
pub mod Lists
-- ---- pots
-- a pass over the file's teams, one team at a time
pub mod PotSteps
-- the teams of a pot stand in file order, each once
pub mod PotOrder
-- which teams stand in a pot, and which of them have a property
pub mod PotMembers
-- the groups that a team may take, and the positions that are drawn by a ball
pub mod FreeGroups
-- half of the teams of a pairing are runners-up
pub mod HalfOfTeams
-- ---- states and offers
-- the teams of pots and the candidates are of the file
pub mod FileTeams
-- the candidates of a phase are choices that it takes
pub mod CandidateMoves
-- what a state names is of its file
pub mod NamedTeams
-- states grow by a candidate's move and shrink by their last
pub mod StateMoves
-- a state has one offer, which has exactly the possible choices
pub mod OfferLaws
-- ---- rules and verdicts
-- rules 2 to 4 for one pair
pub mod PairRules
-- how often a table gives a team
pub mod TimesGiven
-- a table that gives each winner once gives nobody else
pub mod NobodyElse
-- what a pass over the runners-up or the winners finds, one team at a time
pub mod PassSteps
-- counts of one; each place of a group table is one of the file
pub mod GroupCounts
-- which positions are held
pub mod HeldPositions
-- the cases of broken rules of group tables, by the tests of the code
pub mod GroupCases
-- a group table is legal where no rule is broken
pub mod GroupLegal
-- the cases of broken rules: what the passes find, and legal tables
pub mod RuleCases
-- what the passes of a judgement say of the table, and the laws of verdicts
pub mod Judgements
-- what the passes of a judgement say of a group table
pub mod GroupJudgements
-- ---- the text of a table
-- one more code is read of a text
pub mod ItemSteps
-- what is read of a text has that text, and what has a text is read of it
pub mod TextReading
-- codes of teams and places are items of one width
pub mod ReadableItems
-- a table is read of its text, and of no other table's
pub mod TableReading
