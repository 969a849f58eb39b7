-- What a turn keeps of its command, and what that says of the turn.
use Rattle.std.specs.Prelude.{◌≡◌, ℕ, List, [], ◌∷◌, ◌++◌, Option, Some, None}
use Rattle.team_files.specs.declared.team_id.TeamId.{TeamId}
use Rattle.draw_tables.specs.declared.moves.Move.{Move}
use Rattle.draw_tables.specs.declared.moves.Choice.{Choice}
use Rattle.draw_tables.specs.declared.moves.Phase.{Phase}
use Rattle.draw_tables.specs.Positions.{HasCleanPositions}
use Rattle.draw_tables.specs.States.{phase_of, IsMoveOf}
use Rattle.draw_state.specs.declared.commands.Command.{Command}
use Rattle.draw_state.specs.declared.replies.Refusal.{Refusal}
use Rattle.draw_state.specs.declared.replies.Reply.{Reply}
use Rattle.draw_state.specs.State.{State}
use Rattle.draw_state.specs.Commands.{IsFirstPossibleGroup}
use Rattle.draw_state.specs.Runs.{IsNextLine, IsStepBelowLimit, group_told}
use Rattle.offer_engine.specs.declared.course.Course.{Course}
use Rattle.offer_engine.specs.declared.course.Course.TheVariants.{Refused, Waiting, Taken}
use Rattle.offer_engine.specs.Offers.{Offer}
use Rattle.offer_engine.specs.Turns.{Needs, RefusesBelowLimit, state_with, states_of}

-- ---- how far a turn is

-- the reply is that the command is refused, for the cause that refuses it
abbrev pub IsRefusal : State → Command → Reply → Type 0
IsRefusal state command reply =
    (refusal : Refusal) × (reply ≡ Reply.Refused refusal) × RefusesBelowLimit state command refusal

-- Of the offers that the command needs those of these states were given. The next is that of the
-- state that the added moves lead to, whose positions are clean.
pub record IsAwaited (state : State) (command : Command) (given : List State) (next : State)
    (added : List Move) : Type 0 where
  pub more : List State
  pub needs : Needs state command (given ++ next ∷ more)
  pub next_is : next ≡ state_with state added
  pub clean : HasCleanPositions next.file next.moves

-- the offer in the phase Group, where it was given
abbrev pub group_offers : Option Offer → List Offer
group_offers None = []
group_offers (Some offer) = offer ∷ []

-- With the offer in the phase Group, where that was given, the course is that of the command: it is
-- refused; or an offer that it needs is waited for; or all that it needs were given.
abbrev pub IsCourse : State → Command → Option Offer → Course → Type 0
IsCourse state command group (Refused reply) = IsRefusal state command reply × (group ≡ None)
IsCourse state command group (Waiting next added) =
    IsAwaited state command (states_of (group_offers group)) next added
IsCourse state command group (Taken reply after) =
    Needs state command (states_of (group_offers group ++ after ∷ []))
    × IsStepBelowLimit state.file state.moves command after.state.moves reply

-- the offers that were given
abbrev pub given_with : Option Offer → Course → List Offer
given_with group (Refused reply) = []
given_with group (Waiting next added) = group_offers group
given_with group (Taken reply after) = group_offers group ++ after ∷ []

-- The course is that of the command, and no offer was given.
pub record IsUngiven (state : State) (command : Command) (course : Course) : Type 0 where
  pub is_course : IsCourse state command None course
  pub none_given : given_with None course ≡ []

-- ---- the steps of a turn

-- The course waits for the offer of this state, with the moves that lead to it.
abbrev pub WaitsFor : State → State → Course → Type 0
WaitsFor before next (Refused reply) = ⊥
WaitsFor before next (Waiting state added) = (state ≡ next) × (state ≡ state_with before added)
WaitsFor before next (Taken reply after) = ⊥

-- The course waits for the offer of the state with the choice's move.
abbrev pub TakesBall : State → Choice → Course → Type 0
TakesBall state c course =
    (m : Move) × IsMoveOf state.file state.moves c m
    × WaitsFor state (state_with state (m ∷ [])) course

-- A team waits for its group, and in the next state it has the first possible one.
pub record TakesGroup (state next : State) : Type 0 where
  pub team : TeamId
  pub group : ℕ
  pub waits : phase_of state.file state.moves ≡ Phase.Group team
  pub first : IsFirstPossibleGroup state.file state.moves group
  pub next_is : next ≡ state_with state (Move.Placed team group ∷ [])

-- The course waits for the offer of the state in which the team that waited has its group.
abbrev pub PlacesTeam : State → State → Course → Type 0
PlacesTeam before state course =
    (next : State) × TakesGroup state next × WaitsFor before next course

-- The reply tells what a ball added, the group beside it, and what comes next in the state of the
-- offer.
abbrev pub TellsTaken : List Move → Offer → Reply → Type 0
TellsTaken added offer (Reply.Refused refusal) = ⊥
TellsTaken added offer (Reply.Taken moves group next) =
    (moves ≡ added) × (group ≡ group_told offer.state.moves added)
    × IsNextLine offer.state.file offer.state.moves next
