-- Moves, choices and phases of a file: each team, group, pot and position in them is one of its own.
use Rattle.std.specs.Prelude.{ℕ, ◌<◌, ◌≤◌, List}
use Rattle.std.specs.List.{AllByRecursion as Each}
use Rattle.rule_sets.specs.Files.{DrawFile}
use Rattle.draw_tables.specs.declared.moves.Move.{Move}
use Rattle.draw_tables.specs.declared.moves.Move.TheVariants.{Drawn, Placed, Positioned, Paired}
use Rattle.draw_tables.specs.declared.moves.Choice.{Choice}
use Rattle.draw_tables.specs.declared.moves.Choice.TheVariants as choice
use Rattle.draw_tables.specs.declared.moves.Phase.{Phase}
use Rattle.draw_tables.specs.declared.moves.Phase.TheVariants as phase
use Rattle.draw_tables.specs.Pots.{IsTeamOf, IsPot}
use Rattle.draw_tables.specs.States.{phase_of, candidates, IsState}
use Rattle.draw_tables.specs.Offers.{IsOffer}

-- the position is one of the file that is drawn by a ball
abbrev pub IsLaterPosition : DrawFile → ℕ → Type 0
IsLaterPosition file position = (2 ≤ position) × (position ≤ file.pots)

-- the move is one of the file
abbrev pub IsFileMove : DrawFile → Move → Type 0
IsFileMove file (Drawn t) = IsTeamOf file t
IsFileMove file (Placed t group) = IsTeamOf file t × (group < file.groups)
IsFileMove file (Positioned t position) = IsTeamOf file t × IsLaterPosition file position
IsFileMove file (Paired r w) = IsTeamOf file r × IsTeamOf file w

-- each move is one of the file
abbrev pub AreFileMoves : DrawFile → List Move → Type 0
AreFileMoves file ms = Each (IsFileMove file) ms

-- the choice is one of the file
abbrev pub IsFileChoice : DrawFile → Choice → Type 0
IsFileChoice file (choice.Team t) = IsTeamOf file t
IsFileChoice file (choice.Group group) = group < file.groups
IsFileChoice file (choice.Position position) = IsLaterPosition file position

-- each choice is one of the file
abbrev pub AreFileChoices : DrawFile → List Choice → Type 0
AreFileChoices file cs = Each (IsFileChoice file) cs

-- the phase is one of the file
abbrev pub IsFilePhase : DrawFile → Phase → Type 0
IsFilePhase file phase.Runner = Unit {0}
IsFilePhase file (phase.Opponent r) = IsTeamOf file r
IsFilePhase file (phase.Team pot) = IsPot file pot
IsFilePhase file (phase.Group t) = IsTeamOf file t
IsFilePhase file (phase.Position t) = IsTeamOf file t
IsFilePhase file phase.Complete = Unit {0}

-- What a state names is of its file: its moves, its phase, its candidates, and what is offered in it.
pub record StatesNameTeams : Type 0 where
  pub moves : (file : DrawFile) (ms : List Move) → IsState file ms → AreFileMoves file ms
  pub phase : (file : DrawFile) (ms : List Move)
      → IsState file ms → IsFilePhase file (phase_of file ms)
  pub candidates : (file : DrawFile) (ms : List Move) → AreFileChoices file (candidates file ms)
  pub offer : (file : DrawFile) (ms : List Move) (os : List Choice)
      → IsOffer file ms os → AreFileChoices file os
