-- The offer of a state with what shows it: a table for each offered choice; for each other
-- candidate a refutation, or the team that holds the position.
use Rattle.std.specs.Prelude.{◌≡◌, ℕ, List, [], ◌∷◌, ◌++◌, map, Option, Some, None}
use Rattle.std.specs.List.{AllByRecursion as Each, filter_map}
use Rattle.team_files.specs.declared.team_id.TeamId.{TeamId}
use Rattle.rule_sets.specs.Files.{DrawFile}
use Rattle.count_core.specs.Steps.{IsRefutation}
use Rattle.draw_tables.specs.declared.moves.Move.{Move}
use Rattle.draw_tables.specs.declared.moves.Choice.{Choice}
use Rattle.draw_tables.specs.declared.moves.Phase.{Phase}
use Rattle.draw_tables.specs.declared.table.Table.{Table}
use Rattle.draw_tables.specs.Lists.{IsAmong}
use Rattle.draw_tables.specs.Moves.{group_in}
use Rattle.draw_tables.specs.Positions.{HasCleanPositions, IsHolder}
use Rattle.draw_tables.specs.States.{candidates, phase_of, IsMoveOf}
use Rattle.draw_tables.specs.Tables.{IsLegal, IsTableOf}
use Rattle.draw_tables.specs.Offers.{Extends, IsCompletable}
use Rattle.draw_state.specs.State.{State}
use Rattle.refutations.specs.Derivations.{Closing}
use Rattle.serial_search.specs.declared.outcome.Outcome.{Outcome}
use Rattle.serial_search.specs.declared.outcome.Outcome.TheVariants.{Impossible}
use Rattle.serial_search.specs.Answers.{Answering, IsPossible as WasPossible}
use Rattle.offer_engine.specs.declared.standing.Standing.{Standing}
use Rattle.offer_engine.specs.declared.standing.Standing.TheVariants.{Offered, Excluded, Held}
use Rattle.offer_engine.specs.Encodings.{rules_of, lits_of}
use Rattle.offer_engine.specs.Questions.{question_of}

-- ---- how a candidate stands

-- The table is a legal one of the file that extends the moves.
pub record IsCompletion (file : DrawFile) (ms : List Move) (table : Table) : Type 0 where
  pub legal : IsLegal file table
  pub of_file : IsTableOf file table
  pub extends : Extends file table ms

-- What is closed are the literals of the moves, by a refutation from the rules of the file.
pub record IsExclusion (file : DrawFile) (ms : List Move) (closed : Closing) : Type 0 where
  pub problem : closed.problem ≡ rules_of file
  pub question : closed.question ≡ lits_of file ms
  pub refutes : IsRefutation (rules_of file) (lits_of file ms) closed.steps

-- The choice is a candidate: a position in the group of the team whose position is drawn. This team
-- holds it, and the moves can be completed.
pub record IsHeldBy (file : DrawFile) (ms : List Move) (c : Choice) (holder : TeamId) : Type 0 where
  pub team : TeamId
  pub group : ℕ
  pub position : ℕ
  pub phase : phase_of file ms ≡ Phase.Position team
  pub stands : group_in ms team ≡ Some group
  pub choice : c ≡ Choice.Position position
  pub candidate : IsAmong (candidates file ms) c
  pub holds : IsHolder file ms team group position holder
  pub completable : IsCompletable file ms

-- The choice is a candidate after the moves. It is offered with a table that completes them with
-- its move, excluded by a refutation of them with its move, or a position that is held.
abbrev pub Stands : DrawFile → List Move → Choice → Standing → Type 0
Stands file ms c (Offered table) =
    (m : Move) × IsMoveOf file ms c m × IsCompletion file (ms ++ m ∷ []) table
Stands file ms c (Excluded closed) =
    (m : Move) × IsMoveOf file ms c m × IsExclusion file (ms ++ m ∷ []) closed
Stands file ms c (Held holder) = IsHeldBy file ms c holder

-- the choice stands so
abbrev pub StandsRight : DrawFile → List Move → Choice × Standing → Type 0
StandsRight file ms s = Stands file ms s.0 s.1

-- The standing shows of moves that they can be completed, or that they cannot. That a position is
-- held shows neither.
abbrev pub Shows : DrawFile → List Move → Standing → Type 0
Shows file ms (Offered table) = IsCompletion file ms table
Shows file ms (Excluded closed) = IsExclusion file ms closed
Shows file ms (Held holder) = ⊥

-- ---- offers

-- A state, and how choices stand in it. An offer is seen as one.
pub record Offer : Type 0 where
  pub state : State
  pub standings : List (Choice × Standing)

-- the offer of these parts
abbrev pub offer_with : State → List (Choice × Standing) → Offer
offer_with state standings = record { state = state; standings = standings }

-- All candidates stand there in order, each as it is right, and the positions of the moves are
-- clean.
pub record IsExact (offer : Offer) : Type 0 where
  pub choices : map (λ s. s.0) offer.standings ≡ candidates offer.state.file offer.state.moves
  pub each : Each (StandsRight offer.state.file offer.state.moves) offer.standings
  pub clean : HasCleanPositions offer.state.file offer.state.moves

-- the choice, where it is offered
abbrev pub where_offered : Choice → Standing → Option Choice
where_offered c (Offered table) = Some c
where_offered c (Excluded closed) = None
where_offered c (Held holder) = None

-- the choices that are offered, in order
abbrev pub offered : List (Choice × Standing) → List Choice
offered standings = filter_map (λ s. where_offered s.0 s.1) standings

-- ---- what an offer is made of

-- The standing is what the outcome makes of it: an excluded choice keeps the refutation that was
-- found; a position is held only where the moves were found to be possible.
abbrev pub ComesOf : Standing → Outcome → Type 0
ComesOf (Offered table) outcome = WasPossible outcome
ComesOf (Excluded closed) outcome = outcome ≡ Impossible closed
ComesOf (Held holder) outcome = WasPossible outcome

-- The standing comes of the answer to the choice's question.
abbrev pub RestsOn : DrawFile → List Move → List Answering → Choice × Standing → Type 0
RestsOn file ms answers s =
    (a : Answering) × IsAmong answers a × (a.question ≡ question_of file ms s.0)
    × ComesOf s.1 a.outcome

-- Each standing of the offer does.
abbrev pub KeepsAnswers : List Answering → Offer → Type 0
KeepsAnswers answers offer =
    Each (RestsOn offer.state.file offer.state.moves answers) offer.standings

-- So the candidates stand as is right, and as the answers have it.
pub record StandAsAnswered (state : State) (answers : List Answering)
    (standings : List (Choice × Standing)) : Type 0 where
  pub exact : IsExact (offer_with state standings)
  pub kept : KeepsAnswers answers (offer_with state standings)
