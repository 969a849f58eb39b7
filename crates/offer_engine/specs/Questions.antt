-- What is asked in a state: questions whose answers make its offer.
use Rattle.std.specs.Prelude.{◌≡◌, ◌≢◌, ◌<◌, ℕ, List, [], ◌∷◌, ◌++◌, map, true, Option, Some, None, slice_get}
use Rattle.rule_sets.specs.Files.{DrawFile}
use Rattle.count_core.specs.declared.lit.Lit.{Lit}
use Rattle.count_core.specs.Problems.{Problem, are_within}
use Rattle.draw_tables.specs.declared.moves.Move.{Move}
use Rattle.draw_tables.specs.declared.moves.Choice.{Choice}
use Rattle.draw_tables.specs.declared.moves.Phase.{Phase}
use Rattle.draw_tables.specs.declared.moves.Phase.TheVariants.{Runner, Opponent, Team, Group, Position, Complete}
use Rattle.draw_tables.specs.Lists.{IsAmong}
use Rattle.draw_tables.specs.Positions.{HasCleanPositions}
use Rattle.draw_tables.specs.States.{phase_of, candidates, move_in, IsMoveOf, IsCandidateMove}
use Rattle.draw_state.specs.State.{State}
use Rattle.serial_search.specs.Answers.{Answering}
use Rattle.offer_engine.specs.Encodings.{lits_of, rules_of}

-- ---- questions

-- the moves with one more, where there is one
abbrev pub with_move : List Move → Option Move → List Move
with_move ms None = ms
with_move ms (Some m) = ms ++ m ∷ []

-- the question of a choice in a phase: the literals of the moves with its own
abbrev pub question_in : DrawFile → List Move → Phase → Choice → List Lit
question_in file ms phase c = lits_of file (with_move ms (move_in phase c))

-- The question of a choice after the moves.
abbrev pub question_of : DrawFile → List Move → Choice → List Lit
question_of file ms c = question_in file ms (phase_of file ms) c

-- The questions of a phase: one of each candidate. Where a team or a position is drawn no
-- candidate's move has a literal, so that one question, of the moves alone, stands for all.
abbrev pub questions_in : DrawFile → List Move → Phase → List (List Lit)
questions_in file ms Runner = lits_of file ms ∷ []
questions_in file ms (Opponent r) = map (question_in file ms (Opponent r)) (candidates file ms)
questions_in file ms (Team pot) = lits_of file ms ∷ []
questions_in file ms (Group t) = map (question_in file ms (Group t)) (candidates file ms)
questions_in file ms (Position t) = lits_of file ms ∷ []
questions_in file ms Complete = []

-- The questions of a state, in order.
abbrev pub questions : DrawFile → List Move → List (List Lit)
questions file ms = questions_in file ms (phase_of file ms)

-- Each of the questions is over so many atoms.
abbrev pub AreWithin : ℕ → List (List Lit) → Type 0
AreWithin atoms qs = (q : List Lit) → IsAmong qs q → are_within atoms q ≡ true

-- The state is the one after the candidate's move.
abbrev pub AddsMoveOf : State → Choice → State → Type 0
AddsMoveOf state c later =
    (m : Move) × IsMoveOf state.file state.moves c m × (later.file ≡ state.file)
    × (later.moves ≡ state.moves ++ m ∷ [])

-- in the phase a team is drawn, whose ball says nothing of the table
abbrev pub DrawsTeam : Phase → Type 0
DrawsTeam Runner = Unit {0}
DrawsTeam (Opponent r) = ⊥
DrawsTeam (Team pot) = Unit {0}
DrawsTeam (Group t) = ⊥
DrawsTeam (Position t) = ⊥
DrawsTeam Complete = ⊥

-- The positions are clean with each candidate's move.
abbrev pub MovesStayClean : DrawFile → List Move → Type 0
MovesStayClean file ms =
    (m : Move) → IsCandidateMove file ms m → HasCleanPositions file (ms ++ m ∷ [])

-- ---- answers

-- what was asked
abbrev pub asked : List Answering → List (List Lit)
asked answers = map (λ a. a.question) answers

-- each answer is of the problem
abbrev pub AreAnswersOf : Problem → List Answering → Type 0
AreAnswersOf problem answers = (a : Answering) → IsAmong answers a → a.problem ≡ problem

-- each answer is of the problem of the file
abbrev pub AreOfProblem : DrawFile → List Answering → Type 0
AreOfProblem file answers = AreAnswersOf (rules_of file) answers

-- At this place an answer is missing, is not of the question, or is one too many.
abbrev pub IsWrongAt : List (List Lit) → List Answering → ℕ → Type 0
IsWrongAt qs answers place = slice_get (asked answers) place ≢ slice_get qs place

-- And at no place before it.
pub record IsFirstWrong (qs : List (List Lit)) (answers : List Answering) (place : ℕ) : Type 0 where
  pub wrong : IsWrongAt qs answers place
  pub before : (k : ℕ) → k < place → ¬ IsWrongAt qs answers k
