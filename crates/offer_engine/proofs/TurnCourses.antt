-- What the course of a turn says of it, and what its steps make of it.
use Rattle.std.proofs.Common.{◌≡◌, ◌≢◌, ℕ, ◌<◌, List, [], ◌∷◌, ◌++◌, inl, inr, length, drop, Option, Some, None, refl, sym, ap, ◌∙◌, subst, arith}
use Rattle.std.proofs.Math.Seq.{drop-append_seam}
use Rattle.team_files.specs.declared.team_id.TeamId.{TeamId}
use Rattle.rule_sets.specs.Files.{IsWellFormed}
use Rattle.draw_tables.specs.declared.moves.Move.{Move}
use Rattle.draw_tables.specs.declared.moves.Choice.{Choice}
use Rattle.draw_tables.specs.declared.moves.Phase.{Phase}
use Rattle.draw_tables.specs.Positions.{HasCleanPositions}
use Rattle.draw_tables.specs.States.{phase_of, IsState}
use Rattle.draw_tables.specs.Offers.{IsOffer, IsPossible, OfferedWherePossible}
use Rattle.draw_state.specs.declared.commands.Command.{Command}
use Rattle.draw_state.specs.declared.commands.Action.{Action}
use Rattle.draw_state.specs.declared.replies.Reply.{Reply}
use Rattle.draw_state.specs.declared.replies.Refusal.{Refusal}
use Rattle.draw_state.specs.State.{State, Accepts, RefusesFor}
use Rattle.draw_state.specs.Commands.{most_commands, Adds}
use Rattle.draw_state.specs.Runs.{IsNextLine, IsStepBelowLimit, group_told}
use Rattle.draw_state.specs.Laws.{OfferedIsAccepted, StepsBelowLimit}
use Rattle.draw_state.proofs.Added.{one_move, some_added}
use Rattle.offer_engine.specs.declared.course.Course.{Course}
use Rattle.offer_engine.specs.declared.course.Course.TheVariants.{Refused, Waiting, Taken}
use Rattle.offer_engine.specs.Laws.{CleanWhereCompletable, OfferExists}
use Rattle.offer_engine.specs.Offers.{Offer}
use Rattle.offer_engine.specs.Turns.{Turn, IsGroupOffer, IsReady, LeadsTo, Needs, Replies, Wants, after_of, last_of, state_with, states_of, states_through, with_offer}
use Rattle.offer_engine.specs.Courses.{IsAwaited, IsCourse, IsUngiven, PlacesTeam, TakesBall, TakesGroup, TellsTaken, WaitsFor, given_with, group_offers}
use Rattle.offer_engine.proofs.TurnNeeds.{GoesOn, goes_on, group_completes, needs_leads, none_after_group, one_taken, same_head, same_rest, takes_second}

-- the turn with this course
abbrev pub turn_with : Offer → Command → Option Offer → Course → Turn
turn_with before command group course = record { before = before; command = command; given = given_with group course }

-- ---- the offers that were given

-- their states, with one more
one_more : (group : Option Offer) (o : Offer) → states_of (group_offers group ++ o ∷ []) ≡ states_of (group_offers group) ++ o.state ∷ []
one_more None o = refl
one_more (Some g) o = refl

last_is : (before : Offer) (group : Option Offer) (o : Offer) → last_of before (group_offers group ++ o ∷ []) ≡ o
last_is before None o = refl
last_is before (Some g) o = refl

pub few_given : (group : Option Offer) (next : State) (added : List Move) → length (given_with group (Waiting next added)) < 2
few_given None next added = omega arith
few_given (Some g) next added = omega arith

-- ---- what a course says

module _ (before : Offer) (command : Command) (group : Option Offer) where
  pub refused_ready : (reply : Reply) → IsCourse before.state command group (Refused reply) → IsReady (turn_with before command group (Refused reply))
  refused_ready reply h = (h.0.0, h.0.2)

  pub refused_replies : (reply : Reply) → IsCourse before.state command group (Refused reply) → Replies (turn_with before command group (Refused reply)) reply
  refused_replies reply h =
      subst (λ r. IsStepBelowLimit before.state.file before.state.moves command before.state.moves r) (sym h.0.1) (λ answered below. (h.0.2 answered below, refl))

  pub waiting_wants : (next : State) (added : List Move) → IsCourse before.state command group (Waiting next added) → Wants (turn_with before command group (Waiting next added)) next
  waiting_wants next added h = (h.more, h.needs)

  pub waiting_file : (next : State) (added : List Move) → IsCourse before.state command group (Waiting next added) → next.file ≡ before.state.file
  waiting_file next added h = ap (λ s. s.file) h.next_is

  pub waiting_clean : (next : State) (added : List Move) → IsCourse before.state command group (Waiting next added) → HasCleanPositions next.file next.moves
  waiting_clean next added h = h.clean

  pub taken_ready : (reply : Reply) (after : Offer) → IsCourse before.state command group (Taken reply after) → IsReady (turn_with before command group (Taken reply after))
  taken_ready reply after h = h.0

  pub taken_after : (reply : Reply) (after : Offer) → after ≡ after_of (turn_with before command group (Taken reply after))
  taken_after reply after = sym (last_is before group after)

  pub taken_replies : (reply : Reply) (after : Offer) → IsCourse before.state command group (Taken reply after) → Replies (turn_with before command group (Taken reply after)) reply
  taken_replies reply after h =
      subst (λ o. IsStepBelowLimit before.state.file before.state.moves command o.state.moves reply) (taken_after reply after) h.1

  pub taken_file : (reply : Reply) (after : Offer) → IsCourse before.state command group (Taken reply after) → after.state.file ≡ before.state.file
  taken_file reply after h =
      let needs = subst (Needs before.state command) (one_more group after) h.0 in
      ap (λ s. s.file) (needs_leads before.state command (states_of (group_offers group)) after.state needs).2

-- what holds of the course that a turn has holds of the turn
pub at_course : (P : Turn → Type 0) (t : Turn) (before : Offer) (command : Command) (group : Option Offer) (course k : Course)
    → turn_with before command group course ≡ t → course ≡ k → IsCourse before.state command group course
    → (IsCourse before.state command group k → P (turn_with before command group k)) → P t
at_course P t before command group course k view is h holds =
    let Q : Course → Type 0 = λ c. P (turn_with before command group c) in
    subst P view (subst Q (sym is) (holds (subst (λ c. IsCourse before.state command group c) is h)))

-- where a course waits for nothing, the turn is ready
pub ready_unless : (t : Turn) (before : Offer) (command : Command) (group : Option Offer) (course : Course) → turn_with before command group course ≡ t
    → IsCourse before.state command group course → ((next : State) (added : List Move) → course ≡ Waiting next added → ⊥) → IsReady t
ready_unless t before command group course view h not = go course refl
  where
    go : (k : Course) → course ≡ k → IsReady t
    go (Refused reply) e = at_course IsReady t before command group course (Refused reply) view e h (refused_ready before command group reply)
    go (Waiting next added) e = absurd (not next added e)
    go (Taken reply after) e = at_course IsReady t before command group course (Taken reply after) view e h (taken_ready before command group reply after)

-- ---- the offer in the phase Group

module _ (before : Offer) (command : Command) where
  waits_in : (first next : State) (more : List State) → Needs before.state command (first ∷ next ∷ more) → (t : TeamId) × (phase_of first.file first.moves ≡ Phase.Group t)
  waits_in first next more needs = let takes = (takes_second before.state command first next more needs).0 in (takes.team, takes.waits)

  -- the one that was given is that
  pub some_group : (o : Offer) (course : Course) → IsCourse before.state command (Some o) course → IsGroupOffer (turn_with before command (Some o) course) o
  some_group o (Refused reply) h = let clash = h.1 in cc
  some_group o (Waiting next added) h =
      let w = waits_in o.state next h.more h.needs in
      record { later = []; is_first = refl; team = w.0; waits = w.1 }
  some_group o (Taken reply after) h =
      let w = waits_in o.state after.state [] h.0 in
      record { later = after ∷ []; is_first = refl; team = w.0; waits = w.1 }

  -- and where none was given, no other is
  pub no_group : (o : Offer) (course : Course) → IsCourse before.state command None course → ¬ IsGroupOffer (turn_with before command None course) o
  no_group o (Refused reply) h g = let e = g.is_first in cc
  no_group o (Waiting next added) h g = let e = g.is_first in cc
  no_group o (Taken reply after) h g = go (goes_on before.state command after.state [] h.0)
    where
      waits : phase_of after.state.file after.state.moves ≡ Phase.Group g.team
      waits = subst (λ x. phase_of x.state.file x.state.moves ≡ Phase.Group g.team) (sym (same_head after o [] g.later g.is_first)) g.waits

      go : GoesOn after.state [] → ⊥
      go (inl (none, not)) = not g.team waits
      go (inr (next, takes, is)) = cc

-- ---- the offer that was waited for

module _ (state : State) (command : Command) (next : State) (more : List State) where
  -- where no team waits for its group, it is the last one
  is_last : (group : Option Offer) → Needs state command (states_of (group_offers group) ++ next ∷ more)
      → ((t : TeamId) → phase_of next.file next.moves ≢ Phase.Group t) → more ≡ []
  is_last None needs not = go (goes_on state command next more needs)
    where
      go : GoesOn next more → more ≡ []
      go (inl (none, other)) = none
      go (inr (s, takes, is)) = absurd (not takes.team takes.waits)
  is_last (Some o) needs not = (takes_second state command o.state next more needs).1

  -- where a team waits for its group, none was given before, and the one in which it has the group is the last one
  is_first : (group : Option Offer) → Needs state command (states_of (group_offers group) ++ next ∷ more)
      → (t : TeamId) → phase_of next.file next.moves ≡ Phase.Group t → (group ≡ None) × ((s : State) × TakesGroup next s × (more ≡ s ∷ []))
  is_first None needs t waits = (refl, go (goes_on state command next more needs))
    where
      go : GoesOn next more → (s : State) × TakesGroup next s × (more ≡ s ∷ [])
      go (inl (none, not)) = absurd (not t waits)
      go (inr (s, takes, is)) = (s, takes, is)
  is_first (Some o) needs t waits = absurd (none_after_group o.state next (takes_second state command o.state next more needs).0 t waits)

-- it is given, and no team waits for its group
pub taken_course : (before : Offer) (command : Command) (group : Option Offer) (next : State) (added : List Move) (offer : Offer) (reply : Reply)
    → IsCourse before.state command group (Waiting next added) → next ≡ offer.state → ((t : TeamId) → phase_of next.file next.moves ≢ Phase.Group t)
    → TellsTaken added offer reply → IsCourse before.state command group (Taken reply offer)
taken_course before command group next added offer (Reply.Refused refusal) h same not tells = absurd tells
taken_course before command group next added offer (Reply.Taken moves told line) h same not tells =
    let state = before.state in
    let given = states_of (group_offers group) in
    let none = is_last state command next h.more group h.needs not in
    let needs : Needs state command (given ++ offer.state ∷ []) = subst (λ s. Needs state command (given ++ s ∷ [])) same (subst (λ xs. Needs state command (given ++ next ∷ xs)) none h.needs) in
    let leads : LeadsTo state command offer.state = needs_leads state command given offer.state needs in
    let to : offer.state ≡ state_with state added = sym same ∙ h.next_is in
    let all : leads.0 ≡ added = same_rest state.moves leads.0 added (ap (λ s. s.moves) (sym leads.2 ∙ to)) in
    let adds : Adds state.file state.moves leads.1.0 moves = subst (λ ms. Adds state.file state.moves leads.1.0 ms) (all ∙ sym tells.0) leads.1.2 in
    let reached : offer.state.moves ≡ state.moves ++ moves = ap (λ s. s.moves) to ∙ ap (λ ms. state.moves ++ ms) (sym tells.0) in
    let tells_group : told ≡ group_told offer.state.moves moves = tells.1 ∙ ap (group_told offer.state.moves) (sym tells.0) in
    let comes : IsNextLine state.file offer.state.moves line = subst (λ f. IsNextLine f offer.state.moves line) (ap (λ s. s.file) to) tells.2 in
    (subst (Needs state command) (sym (one_more group offer)) needs, λ answered below. (leads.1.0, leads.1.1 answered below, adds, reached, tells_group, comes))

module _ (before : Offer) (command : Command) (group : Option Offer) (next : State) (added : List Move) (h : IsCourse before.state command group (Waiting next added))
    (offer : Offer) (same : next ≡ offer.state) (t : TeamId) (waits : phase_of next.file next.moves ≡ Phase.Group t) where
  -- no offer in the phase Group was given before
  pub no_group_before : group ≡ None
  no_group_before = (is_first before.state command next h.more group h.needs t waits).0

  -- the team takes a group
  pub takes_one : (s : State) × TakesGroup offer.state s
  takes_one =
      let takes = (is_first before.state command next h.more group h.needs t waits).1 in
      (takes.0, subst (λ x. TakesGroup x takes.0) same takes.1)

  -- with it the next offer is waited for
  pub placed_course : CleanWhereCompletable → (course : Course) → PlacesTeam before.state offer.state course → IsCourse before.state command (Some offer) course
  placed_course law (Refused reply) places = absurd places.2
  placed_course law (Taken reply after) places = absurd places.2
  placed_course law (Waiting s longer) places =
      let state = before.state in
      let first = is_first state command next h.more group h.needs t waits in
      let taken : TakesGroup offer.state s = subst (TakesGroup offer.state) (sym places.2.0) places.1 in
      let there : TakesGroup offer.state first.1.0 = subst (λ x. TakesGroup x first.1.0) same first.1.1 in
      let one : first.1.0 ≡ s = one_taken offer.state first.1.0 s there taken in
      let alone : Needs state command (next ∷ h.more) = subst (λ g. Needs state command (states_of (group_offers g) ++ next ∷ h.more)) first.0 h.needs in
      let two : Needs state command (next ∷ s ∷ []) = subst (λ xs. Needs state command (next ∷ xs)) (first.1.2 ∙ ap (λ x. x ∷ []) one) alone in
      record {
        more = [];
        needs = subst (λ x. Needs state command (x ∷ s ∷ [])) same two;
        next_is = places.2.1;
        clean = law s.file s.moves (group_completes offer.state s taken);
      }

-- the turn with the offer in the phase Group, where none was given before
pub given_group : (t : Turn) (before : Offer) (command : Command) (group : Option Offer) (course : Course) (next : State) (added : List Move)
    → turn_with before command group course ≡ t → course ≡ Waiting next added → group ≡ None
    → (offer : Offer) (k : Course) → PlacesTeam before.state offer.state k → turn_with before command (Some offer) k ≡ with_offer t offer
given_group t before command group course next added view is none offer (Refused reply) places = absurd places.2
given_group t before command group course next added view is none offer (Taken reply after) places = absurd places.2
given_group t before command group course next added view is none offer (Waiting s longer) places =
    let waiting = subst (λ k. turn_with before command group k ≡ t) is view in
    let e : turn_with before command None (Waiting next added) ≡ t = subst (λ g. turn_with before command g (Waiting next added) ≡ t) none waiting in
    ap (λ u. with_offer u offer) e

-- ---- what a command comes to

-- the state with the moves that lead to it
pub waits_for : (before next : State) (added all : List Move) → next ≡ state_with before all → added ≡ drop (length before.moves) next.moves
    → WaitsFor before next (Waiting next added)
waits_for before next added all is e =
    let same : added ≡ all = e ∙ ap (λ s. drop (length before.moves) s.moves) is ∙ drop-append_seam before.moves all in
    (refl, is ∙ ap (state_with before) (sym same))

-- a course that waits for one state waits for an equal one
pub waits_alike : (before a b : State) (course : Course) → a ≡ b → WaitsFor before a course → WaitsFor before b course
waits_alike before a b course e h = subst (λ s. WaitsFor before s course) e h

module _ (law : OfferedIsAccepted) (possible : OfferedWherePossible) (state : State) (command : Command) (offered : List Choice)
    (offer : IsOffer state.file state.moves offered) (c : Choice) (accepted : Accepts state 0 command (Action.Ball c)) where
  -- the choice of an accepted ball is possible
  pub accepted_possible : IsPossible state.file state.moves c
  accepted_possible =
      let ball = (law.accepted state.file state.moves offered 0 command c offer).0 accepted in
      (possible state.file state.moves offered c offer).0 ball.2

  accepted_below : (answered : ℕ) → answered < most_commands → Accepts state answered command (Action.Ball c)
  accepted_below answered below =
      let ball = (law.accepted state.file state.moves offered 0 command c offer).0 accepted in
      (law.accepted state.file state.moves offered answered command c offer).1 (below, ball.1, ball.2)

  -- its course waits
  pub ball_course : CleanWhereCompletable → OfferExists → IsWellFormed state.file → IsState state.file state.moves
      → (course : Course) → TakesBall state c course → IsUngiven state command course
  ball_course clean exists formed is_state (Refused reply) takes = absurd takes.2
  ball_course clean exists formed is_state (Taken reply after) takes = absurd takes.2
  ball_course clean exists formed is_state (Waiting next added) takes = record { is_course = awaited; none_given = refl }
    where
      found : IsPossible state.file state.moves c
      found = accepted_possible

      is : next ≡ state_with state (takes.0 ∷ [])
      is = takes.2.0

      all : (full : List Move) × Adds state.file state.moves c full
      all = some_added state.file state.moves c is_state found (λ later there. exists state.file later formed there)

      move : all.1.0 ≡ takes.0
      move = one_move state.file state.moves c all.1.0 takes.0 all.1.2 takes.1

      needs : Needs state command (next ∷ states_through next all.1.1)
      needs =
          let first : next ≡ state_with state (all.1.0 ∷ []) = is ∙ ap (λ m. state_with state (m ∷ [])) (sym move) in
          let through = ap (λ s. s ∷ states_through s all.1.1) first ∙ ap (states_through state) (sym all.1.4) in
          (all.0, (c, accepted_below, all.1), through)

      clean_there : HasCleanPositions next.file next.moves
      clean_there =
          let same = one_move state.file state.moves c found.0 takes.0 found.1 takes.1 in
          let to : next ≡ state_with state (found.0 ∷ []) = is ∙ ap (λ m. state_with state (m ∷ [])) (sym same) in
          subst (λ s. HasCleanPositions s.file s.moves) (sym to) (clean state.file (state.moves ++ found.0 ∷ []) found.2)

      awaited : IsAwaited state command [] next added
      awaited = record { more = states_through next all.1.1; needs = needs; next_is = takes.2.1; clean = clean_there }

-- a refused command's course is that
pub refused_course : StepsBelowLimit → (state : State) (command : Command) (refusal : Refusal) → RefusesFor state 0 command refusal
    → IsUngiven state command (Refused (Reply.Refused refusal))
refused_course law state command refusal refused =
    let below : 0 < most_commands = omega arith in
    let steps = (law state.file state.moves 0 command state.moves (Reply.Refused refusal) below).0 (refused, refl) in
    record { is_course = ((refusal, refl, λ answered lt. (steps answered lt).0), refl); none_given = refl }
