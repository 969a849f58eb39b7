-- The balls that draw a group table (FIFA's procedure of 2018 and 2022): pot by pot, for each team
-- its own ball and, from pot 2 on, then the ball of its position. And what it is that a run draws.
use Rattle.std.specs.Prelude.{◌≡◌, ◌<◌, ◌==◌, if◌then◌else◌, ℕ, List, [], ◌∷◌, filter, flat_map, length, slice_get, Option, Some, None}
use Rattle.std.specs.List.{AllByRecursion as Each}
use Rattle.team_files.specs.declared.team.Team.{Team}
use Rattle.team_files.specs.declared.team_id.TeamId.{TeamId}
use Rattle.rule_sets.specs.Files.{DrawFile, IsWellFormed}
use Rattle.draw_tables.specs.declared.group_place.GroupPlace.{GroupPlace}
use Rattle.draw_tables.specs.declared.group_table.GroupTable.{GroupTable}
use Rattle.draw_tables.specs.declared.table.Table.{Table}
use Rattle.draw_tables.specs.declared.table.Table.TheVariants.{Group}
use Rattle.draw_tables.specs.declared.moves.Move.{Move}
use Rattle.draw_tables.specs.declared.moves.Choice.{Choice}
use Rattle.draw_tables.specs.declared.moves.Phase.{Phase}
use Rattle.draw_tables.specs.Pots.{teams_of_pot, groups_of, pots_of}
use Rattle.draw_tables.specs.GroupTables.{position_of, stands_in}
use Rattle.draw_tables.specs.Tables.{IsLegal}
use Rattle.draw_tables.specs.States.{phase_of, IsState}
use Rattle.draw_tables.specs.Offers.{Extends, IsOffer}
use Rattle.draw_state.specs.declared.commands.Word.{Word}
use Rattle.draw_state.specs.declared.commands.Command.{Command}
use Rattle.draw_state.specs.declared.replies.Reply.{Reply}
use Rattle.draw_state.specs.Commands.{most_commands}
use Rattle.draw_state.specs.Runs.{Reached, IsRun}

-- ---- the balls of a table

-- the ball of a team's position; a team of pot 1 takes position 1 without a ball
abbrev pub position_balls : ℕ → ℕ → List Command
position_balls pot position = if pot == 1 then [] else Command.Ball (Word.Number position) ∷ []

-- the balls of a team of the pot that has this position: its own, then that of its position
abbrev pub balls_of : ℕ → Option Team → Option ℕ → List Command
balls_of pot (Some team) (Some position) =
    Command.Ball (Word.Team team.code) ∷ position_balls pot position
balls_of pot (Some team) None = []
balls_of pot None position = []

-- the balls of a team of the pot as it stands in the table
abbrev pub team_balls : DrawFile → List GroupPlace → ℕ → TeamId → List Command
team_balls file table pot t = balls_of pot (slice_get file.teams t.0) (position_of table t)

-- the balls of the pot's teams that stand in the group: in a legal table it is one
abbrev pub group_balls : DrawFile → List GroupPlace → ℕ → ℕ → List Command
group_balls file table pot group =
    flat_map (team_balls file table pot) (filter (stands_in table group) (teams_of_pot pot file))

-- the balls of the pot's teams in the order of their groups
abbrev pub pot_balls : DrawFile → List GroupPlace → ℕ → List Command
pot_balls file table pot = flat_map (group_balls file table pot) (groups_of file)

-- The balls of a table: those of each pot's teams, pot by pot.
abbrev pub table_balls : DrawFile → List GroupPlace → List Command
table_balls file table = flat_map (pot_balls file table) (pots_of file)

-- ---- what a run draws

-- the reply is that the command was taken
abbrev pub IsTaken : Reply → Type 0
IsTaken (Reply.Refused refusal) = ⊥
IsTaken (Reply.Taken moves group next) = Unit {0}

-- each command of the run was taken
abbrev pub AreTaken : List Reached → Type 0
AreTaken run = Each (λ reached. IsTaken reached.reply) run

-- the moves after a run from these moves
abbrev pub moves_after : List Move → List Reached → List Move
moves_after ms [] = ms
moves_after ms (reached ∷ run) = moves_after reached.moves run

-- The draw is complete with the table: it is the one legal table that extends the moves.
pub record IsCompleteWith (file : DrawFile) (table : Table) (ms : List Move) : Type 0 where
  pub complete : phase_of file ms ≡ Phase.Complete
  pub extends : Extends file table ms
  pub only : (other : Table) → IsLegal file other → Extends file other ms → other ≡ table

-- The run draws the table: each command is taken, and after them the draw is complete with it.
pub record DrawsTable (file : DrawFile) (table : Table) (run : List Reached) : Type 0 where
  pub taken : AreTaken run
  pub complete : IsCompleteWith file table (moves_after [] run)

-- The table is drawn ball by ball.
pub record IsDrawnByBalls (file : DrawFile) (table : GroupTable) : Type 0 where
  -- its balls are fewer than the commands that are answered
  pub few : length (table_balls file table.places) < most_commands
  -- they have a run from the opening
  pub run : List Reached
  pub is_run : IsRun file [] 0 (table_balls file table.places) run
  -- and each run of them draws the table
  pub draws : (other : List Reached) → IsRun file [] 0 (table_balls file table.places) other
      → DrawsTable file (Group table) other

-- ---- the law

-- Each legal table of a group draw is drawn ball by ball, where each state of its file has an
-- offer.
abbrev pub TablesAreDrawn : Type 0
TablesAreDrawn = (file : DrawFile) (table : GroupTable)
    → IsWellFormed file
    → ((later : List Move) → IsState file later
    → (offered : List Choice) × IsOffer file later offered)
    → IsLegal file (Group table) → IsDrawnByBalls file table
