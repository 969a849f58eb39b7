-- One command on a state: the offers that it needs, and the reply and the state that it leads to.
use Rattle.std.specs.Prelude.{◌≡◌, ℕ, ◌<◌, List, [], ◌∷◌, ◌++◌, length, map}
use Rattle.team_files.specs.declared.team_id.TeamId.{TeamId}
use Rattle.draw_tables.specs.declared.moves.Move.{Move}
use Rattle.draw_tables.specs.declared.moves.Choice.{Choice}
use Rattle.draw_tables.specs.declared.moves.Phase.{Phase}
use Rattle.draw_tables.specs.States.{phase_of}
use Rattle.draw_state.specs.declared.commands.Command.{Command}
use Rattle.draw_state.specs.declared.commands.Action.{Action}
use Rattle.draw_state.specs.declared.replies.Refusal.{Refusal}
use Rattle.draw_state.specs.declared.replies.Reply.{Reply}
use Rattle.draw_state.specs.State.{State, Accepts, RefusesFor}
use Rattle.draw_state.specs.Commands.{most_commands, Adds}
use Rattle.draw_state.specs.Runs.{IsStepBelowLimit}
use Rattle.offer_engine.specs.Offers.{Offer}

-- ---- the offers that a command needs

-- below the limit of commands the command is refused for the cause
abbrev pub RefusesBelowLimit : State → Command → Refusal → Type 0
RefusesBelowLimit state command refusal =
    (answered : ℕ) → answered < most_commands → RefusesFor state answered command refusal

-- below the limit of commands the command is refused
abbrev pub IsRefusedBelowLimit : State → Command → Type 0
IsRefusedBelowLimit state command =
    (refusal : Refusal) × RefusesBelowLimit state command refusal

-- below the limit of commands the command is accepted, with the action
abbrev pub AcceptsBelowLimit : State → Command → Action → Type 0
AcceptsBelowLimit state command action =
    (answered : ℕ) → answered < most_commands → Accepts state answered command action

-- below the limit of commands the command is accepted, and adds these moves
abbrev pub AddsBelowLimit : State → Command → List Move → Type 0
AddsBelowLimit state command added =
    (c : Choice) × AcceptsBelowLimit state command (Action.Ball c)
    × Adds state.file state.moves c added

-- the state with moves added
abbrev pub state_with : State → List Move → State
state_with state added = record { file = state.file; moves = state.moves ++ added }

-- below the limit of commands the command leads to this state, with what it adds
abbrev pub LeadsTo : State → Command → State → Type 0
LeadsTo state command next =
    (added : List Move) × AddsBelowLimit state command added
    × (next ≡ state_with state added)

-- the states that moves lead through, one after another
abbrev pub states_through : State → List Move → List State
states_through state [] = []
states_through state (m ∷ ms) =
    state_with state (m ∷ []) ∷ states_through (state_with state (m ∷ [])) ms

-- The states whose offers a command needs, in order: those that the moves of an accepted ball lead
-- through (after a team's ball of a group draw the one in the phase Group, and then the one after
-- it); none where the command is refused.
abbrev pub Needs : State → Command → List State → Type 0
Needs state command [] = IsRefusedBelowLimit state command
Needs state command (next ∷ more) =
    (added : List Move) × AddsBelowLimit state command added
    × (next ∷ more ≡ states_through state added)

-- ---- turns

-- The offer and the command that a turn was begun with, and the offers that were given since.
pub record Turn : Type 0 where
  pub before : Offer
  pub command : Command
  pub given : List Offer

-- the states of offers
abbrev pub states_of : List Offer → List State
states_of offers = map (λ o. o.state) offers

-- All offers that the command needs were given.
abbrev pub IsReady : Turn → Type 0
IsReady turn = Needs turn.before.state turn.command (states_of turn.given)

-- The first needed offer that was not given is that of this state.
abbrev pub Wants : Turn → State → Type 0
Wants turn next =
    (more : List State)
    × Needs turn.before.state turn.command (states_of turn.given ++ next ∷ more)

-- A turn is not both.
abbrev pub ReadyOrWaiting : Type 0
ReadyOrWaiting = (turn : Turn) (next : State) → IsReady turn → ¬ Wants turn next

-- It wants the offer of one state.
abbrev pub OneWanted : Type 0
OneWanted = (turn : Turn) (a b : State) → Wants turn a → Wants turn b → a ≡ b

-- the last of the offers, or the one before them where there are none
abbrev pub last_of : Offer → List Offer → Offer
last_of before [] = before
last_of before (o ∷ os) = last_of o os

-- the offer after the turn: the last one that was given, or that of before where none was needed
abbrev pub after_of : Turn → Offer
after_of turn = last_of turn.before turn.given

-- The reply is that of one command, which leads to the state of the offer after the turn.
abbrev pub Replies : Turn → Reply → Type 0
Replies turn reply =
    IsStepBelowLimit turn.before.state.file turn.before.state.moves turn.command
    (after_of turn).state.moves reply

-- the turn with one more offer given
abbrev pub with_offer : Turn → Offer → Turn
with_offer turn offer = record {
  before = turn.before;
  command = turn.command;
  given = turn.given ++ offer ∷ [];
}

-- The turn was begun with these.
pub record IsBegun (before : Offer) (command : Command) (turn : Turn) : Type 0 where
  pub before_is : turn.before ≡ before
  pub command_is : turn.command ≡ command
  pub none_given : turn.given ≡ []

-- The offer is of another state than the one that the turn wants, and has so many moves.
pub record IsOfOtherState (turn : Turn) (offer : Offer) (moves : ℕ) : Type 0 where
  pub unwanted : ¬ Wants turn offer.state
  pub number : moves ≡ length offer.state.moves

-- The offer is the first that was given, and in its state a team waits for its group.
pub record IsGroupOffer (turn : Turn) (offer : Offer) : Type 0 where
  pub later : List Offer
  pub is_first : turn.given ≡ offer ∷ later
  pub team : TeamId
  pub waits : phase_of offer.state.file offer.state.moves ≡ Phase.Group team
