-- What is proved of steps and runs.
use Rattle.std.specs.Prelude.{◌≡◌, ◌↔◌, ◌<◌, ℕ, List, [], Option, Result}
use Rattle.rule_sets.specs.Files.{DrawFile}
use Rattle.draw_tables.specs.declared.moves.Move.{Move}
use Rattle.draw_tables.specs.declared.moves.Choice.{Choice}
use Rattle.draw_tables.specs.States.{IsState}
use Rattle.draw_tables.specs.Lists.{IsAmong}
use Rattle.draw_tables.specs.Offers.{IsOffer, IsCompletable}
use Rattle.draw_state.specs.declared.commands.Command.{Command}
use Rattle.draw_state.specs.declared.commands.Action.{Action}
use Rattle.draw_state.specs.declared.replies.NextLine.{NextLine}
use Rattle.draw_state.specs.declared.replies.Refusal.{Refusal}
use Rattle.draw_state.specs.declared.replies.Reply.{Reply}
use Rattle.draw_state.specs.Commands.{most_commands, IsBallOf, IsAcceptedCommand, IsOutcome}
use Rattle.draw_state.specs.Runs.{Reached, IsNextLine, IsStep, IsStepBelowLimit, IsRun}
use Rattle.draw_state.specs.Replies.{NoneWaitsForGroup, IsFileNextLine, IsFileReply}

-- Of each command exactly one thing is true: after moves that have an offer, it is accepted with one action or refused
-- for one cause.
pub record OneOutcome : Type 0 where
  pub some : (file : DrawFile) (ms : List Move) (offered : List Choice) (answered : ℕ) (command : Command)
      → IsOffer file ms offered → (outcome : Result Action Refusal) × IsOutcome file ms answered command outcome
  pub one : (file : DrawFile) (ms : List Move) (answered : ℕ) (command : Command) (v w : Result Action Refusal)
      → IsOutcome file ms answered command v → IsOutcome file ms answered command w → v ≡ w

-- A ball is accepted exactly where it names a choice of the offer and fewer commands were answered than are answered at
-- most; and what is accepted can be completed.
pub record OfferedIsAccepted : Type 0 where
  pub accepted : (file : DrawFile) (ms : List Move) (offered : List Choice) (answered : ℕ) (command : Command) (c : Choice)
      → IsOffer file ms offered
      → (IsAcceptedCommand file ms answered command (Action.Ball c) ↔ ((answered < most_commands) × IsBallOf file command c × IsAmong offered c))
  pub completable : (file : DrawFile) (ms : List Move) (offered : List Choice) (answered : ℕ) (command : Command)
      (new_ms added : List Move) (group : Option ℕ) (next : NextLine)
      → IsOffer file ms offered → IsStep file ms answered command new_ms (Reply.Taken added group next) → IsCompletable file new_ms

-- A command leads from a state to a state.
abbrev pub StatesStay : Type 0
StatesStay = (file : DrawFile) (ms : List Move) (answered : ℕ) (command : Command) (new_ms : List Move) (reply : Reply)
    → IsState file ms → IsStep file ms answered command new_ms reply → IsState file new_ms

-- Below the limit the number of commands answered before makes no difference.
abbrev pub StepsBelowLimit : Type 0
StepsBelowLimit = (file : DrawFile) (ms : List Move) (answered : ℕ) (command : Command) (new_ms : List Move) (reply : Reply)
    → answered < most_commands → (IsStep file ms answered command new_ms reply ↔ IsStepBelowLimit file ms command new_ms reply)

-- What is told in a state is of the file. What comes next is told where no team waits for its
-- group: none does at the opening, and none after a command.
pub record RepliesNameTeams : Type 0 where
  pub opening : (file : DrawFile) → NoneWaitsForGroup file []
  pub after : (file : DrawFile) (ms : List Move) (answered : ℕ) (command : Command) (new_ms : List Move) (reply : Reply)
      → NoneWaitsForGroup file ms → IsStep file ms answered command new_ms reply → NoneWaitsForGroup file new_ms
  pub next : (file : DrawFile) (ms : List Move) (next : NextLine)
      → IsState file ms → NoneWaitsForGroup file ms → IsNextLine file ms next → IsFileNextLine file next
  pub reply : (file : DrawFile) (ms : List Move) (answered : ℕ) (command : Command) (new_ms : List Move) (reply : Reply)
      → IsState file ms → IsStep file ms answered command new_ms reply → IsFileReply file reply

-- Commands have one run: what comes next, each step and each run are functions of the file, the moves and the commands,
-- and they are there where each state of the file has an offer.
pub record OneRun : Type 0 where
  pub one_next : (file : DrawFile) (ms : List Move) (x y : NextLine) → IsNextLine file ms x → IsNextLine file ms y → x ≡ y
  pub one_step : (file : DrawFile) (ms : List Move) (answered : ℕ) (command : Command) (a b : List Move) (r s : Reply)
      → IsStep file ms answered command a r → IsStep file ms answered command b s → (a ≡ b) × (r ≡ s)
  pub one : (file : DrawFile) (ms : List Move) (answered : ℕ) (commands : List Command) (xs ys : List Reached)
      → IsRun file ms answered commands xs → IsRun file ms answered commands ys → xs ≡ ys
  pub some_next : (file : DrawFile) (ms : List Move) (offered : List Choice) → IsOffer file ms offered → (next : NextLine) × IsNextLine file ms next
  pub some : (file : DrawFile) (ms : List Move) (answered : ℕ) (commands : List Command)
      → ((later : List Move) → IsState file later → (offered : List Choice) × IsOffer file later offered)
      → IsState file ms → (xs : List Reached) × IsRun file ms answered commands xs
