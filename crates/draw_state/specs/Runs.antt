-- Steps and runs: the moves and the replies that commands lead to.
use Rattle.std.specs.Prelude.{◌≡◌, ◌≢◌, ◌+◌, ◌<◌, ℕ, List, [], ◌∷◌, ◌++◌, Option, None}
use Rattle.rule_sets.specs.Files.{DrawFile}
use Rattle.draw_tables.specs.declared.moves.Move.{Move}
use Rattle.draw_tables.specs.declared.moves.Choice.{Choice}
use Rattle.draw_tables.specs.declared.moves.Phase.{Phase}
use Rattle.draw_tables.specs.Moves.{group_in}
use Rattle.draw_tables.specs.States.{phase_of}
use Rattle.draw_tables.specs.Offers.{IsOffer}
use Rattle.draw_state.specs.declared.commands.Command.{Command}
use Rattle.draw_state.specs.declared.commands.Action.{Action}
use Rattle.draw_state.specs.declared.replies.NextLine.{NextLine}
use Rattle.draw_state.specs.declared.replies.Reply.{Reply}
use Rattle.draw_state.specs.Commands.{most_commands, IsRefusedCommand, IsAcceptedCommand, Adds}

-- What comes next after the moves: nothing in the phase Complete; else the phase and the offer, or `impossible` where
-- the offer is empty.
abbrev pub IsNextLine : DrawFile → List Move → NextLine → Type 0
IsNextLine file ms NextLine.Complete = phase_of file ms ≡ Phase.Complete
IsNextLine file ms NextLine.Impossible = (phase_of file ms ≢ Phase.Complete) × IsOffer file ms []
IsNextLine file ms (NextLine.Choices phase choices) =
    (phase_of file ms ≡ phase) × (phase ≢ Phase.Complete) × (choices ≢ []) × IsOffer file ms choices

-- the group of the team whose position the move gives; none for another move
abbrev pub group_of_positioned : List Move → Move → Option ℕ
group_of_positioned ms (Move.Drawn t) = None
group_of_positioned ms (Move.Placed t group) = None
group_of_positioned ms (Move.Positioned t position) = group_in ms t
group_of_positioned ms (Move.Paired r w) = None

-- the group that the reply to a ball tells beside the moves that it added: that of a team that got
-- its position
abbrev pub group_told : List Move → List Move → Option ℕ
group_told ms [] = None
group_told ms (m ∷ more) = group_of_positioned ms m

-- One command after these moves, where so many were answered before: the moves after it, and its reply. A refused
-- command changes nothing.
abbrev pub IsStep : DrawFile → List Move → ℕ → Command → List Move → Reply → Type 0
IsStep file ms answered command new_ms (Reply.Refused refusal) = IsRefusedCommand file ms answered command refusal × (new_ms ≡ ms)
IsStep file ms answered command new_ms (Reply.Taken added group next) =
    (c : Choice) × IsAcceptedCommand file ms answered command (Action.Ball c) × Adds file ms c added × (new_ms ≡ ms ++ added)
    × (group ≡ group_told new_ms added) × IsNextLine file new_ms next

-- One command by itself: the step that it is wherever fewer commands were answered than are answered at most.
abbrev pub IsStepBelowLimit : DrawFile → List Move → Command → List Move → Reply → Type 0
IsStepBelowLimit file ms command new_ms reply = (answered : ℕ) → answered < most_commands → IsStep file ms answered command new_ms reply

-- what a command led to
pub record Reached : Type 0 where
  pub moves : List Move
  pub reply : Reply

-- A run: for each command, one after another, the moves and the reply that it leads to.
abbrev pub IsRun : DrawFile → List Move → ℕ → List Command → List Reached → Type 0
IsRun file ms answered [] [] = Unit {0}
IsRun file ms answered [] (x ∷ xs) = ⊥
IsRun file ms answered (command ∷ commands) [] = ⊥
IsRun file ms answered (command ∷ commands) (x ∷ xs) =
    IsStep file ms answered command x.moves x.reply × IsRun file x.moves (answered + 1) commands xs
