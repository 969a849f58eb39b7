-- States of a draw: a file and its moves. Phases, candidates, and the move that each adds.
use Rattle.std.specs.Prelude.{◌≡◌, ℕ, List, [], ◌∷◌, ◌++◌, map, Option, Some, None}
use Rattle.team_files.specs.declared.kind.Kind.{Kind}
use Rattle.team_files.specs.declared.team_id.TeamId.{TeamId}
use Rattle.rule_sets.specs.Files.{DrawFile}
use Rattle.draw_tables.specs.declared.moves.Move.{Move}
use Rattle.draw_tables.specs.declared.moves.Move.TheVariants.{Drawn, Placed, Positioned, Paired}
use Rattle.draw_tables.specs.declared.moves.Choice.{Choice}
use Rattle.draw_tables.specs.declared.moves.Choice.TheVariants as choice
use Rattle.draw_tables.specs.declared.moves.Phase.{Phase}
use Rattle.draw_tables.specs.declared.moves.Phase.TheVariants as phase
use Rattle.draw_tables.specs.Lists.{IsAmong}
use Rattle.draw_tables.specs.Pots.{later_positions}
use Rattle.draw_tables.specs.GroupPhases.{undrawn_of_pot, groups_for, group_phase}
use Rattle.draw_tables.specs.PairingPhases.{undrawn_runners_up, unpaired_winners, pairing_phase}

-- ---- phases and candidates

-- the phase, by the kind
abbrev pub phase_by : Kind → DrawFile → List Move → Phase
phase_by Kind.Group file ms = group_phase file ms
phase_by Kind.Pairing file ms = pairing_phase file ms

-- The phase after the moves: what comes next, by the kind of the draw.
abbrev pub phase_of : DrawFile → List Move → Phase
phase_of file ms = phase_by file.kind file ms

-- the choices that are these teams
abbrev pub team_choices : List TeamId → List Choice
team_choices teams = map (λ t. choice.Team t) teams

-- the choices that are these groups
abbrev pub group_choices : List ℕ → List Choice
group_choices groups = map (λ group. choice.Group group) groups

-- the choices that are these positions
abbrev pub position_choices : List ℕ → List Choice
position_choices positions = map (λ position. choice.Position position) positions

-- the candidates that a phase has after the moves
abbrev pub candidates_in : DrawFile → List Move → Phase → List Choice
candidates_in file ms phase.Runner = team_choices (undrawn_runners_up file ms)
candidates_in file ms (phase.Opponent r) = team_choices (unpaired_winners file ms)
candidates_in file ms (phase.Team pot) = team_choices (undrawn_of_pot file ms pot)
candidates_in file ms (phase.Group t) = group_choices (groups_for file ms t)
candidates_in file ms (phase.Position t) = position_choices (later_positions file)
candidates_in file ms phase.Complete = []

-- The candidates of the phase, in order.
abbrev pub candidates : DrawFile → List Move → List Choice
candidates file ms = candidates_in file ms (phase_of file ms)

-- ---- moves

-- the move that a choice adds in a phase, be it a candidate or not; none where the phase takes no such choice
abbrev pub move_in : Phase → Choice → Option Move
move_in phase.Runner (choice.Team t) = Some (Drawn t)
move_in (phase.Opponent r) (choice.Team t) = Some (Paired r t)
move_in (phase.Team pot) (choice.Team t) = Some (Drawn t)
move_in (phase.Group t) (choice.Group group) = Some (Placed t group)
move_in (phase.Position t) (choice.Position position) = Some (Positioned t position)
move_in p c = None

-- The choice is a candidate after the moves, and this is its move.
abbrev pub IsMoveOf : DrawFile → List Move → Choice → Move → Type 0
IsMoveOf file ms c m = IsAmong (candidates file ms) c × (move_in (phase_of file ms) c ≡ Some m)

-- ---- states

-- the move was a candidate's in the phase of the moves before it
abbrev pub IsCandidateMove : DrawFile → List Move → Move → Type 0
IsCandidateMove file before m = (c : Choice) × IsMoveOf file before c m

-- each move was a candidate's in the phase of these moves and those before it
abbrev pub AreMovesAfter : DrawFile → List Move → List Move → Type 0
AreMovesAfter file before [] = Unit {0}
AreMovesAfter file before (m ∷ ms) =
    IsCandidateMove file before m × AreMovesAfter file (before ++ m ∷ []) ms

-- A state: each move was a candidate's in the phase of the moves before it.
abbrev pub IsState : DrawFile → List Move → Type 0
IsState file ms = AreMovesAfter file [] ms
