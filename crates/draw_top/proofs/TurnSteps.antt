-- One command, by a turn that is given what it wants.
use Rattle.std.proofs.Common.{◌≡◌, ℕ, zero, suc, ◌<◌, List, [], ◌∷◌, ◌++◌, sym, ap, ◌∙◌, subst}
use Rattle.rule_sets.specs.Files.{DrawFile}
use Rattle.count_core.specs.Problems.{Problem}
use Rattle.serial_search.specs.Answers.{Answering}
use Rattle.draw_tables.specs.declared.moves.Move.{Move}
use Rattle.draw_tables.specs.States.{IsState}
use Rattle.draw_tables.proofs.Lists.{same_item}
use Rattle.draw_state.specs.declared.commands.Command.{Command}
use Rattle.draw_state.specs.declared.replies.Reply.{Reply}
use Rattle.draw_state.specs.State.{State}
use Rattle.draw_state.specs.Commands.{most_commands}
use Rattle.draw_state.specs.Replies.{NoneWaitsForGroup}
use Rattle.draw_state.specs.Runs.{IsStep, IsStepBelowLimit}
use Rattle.draw_state.specs.Laws.{RepliesNameTeams}
use Rattle.offer_engine.specs.Offers.{Offer}
use Rattle.offer_engine.specs.Questions.{AreAnswersOf}
use Rattle.offer_engine.specs.Turns.{Turn as CommandTurn, Replies, after_of}
use Rattle.draw_top.specs.Turns.{Turn}
use Rattle.draw_top.specs.Replies.{IsRefusal}

-- ---- answers

-- one more answer to the problem
pub answers_push : (problem : Problem) (xs : List Answering) (a : Answering) → AreAnswersOf problem xs → a.problem ≡ problem → AreAnswersOf problem (xs ++ a ∷ [])
answers_push problem [] a all own x (zero, e) = subst (λ y. y.problem ≡ problem) (same_item a x e) own
answers_push problem [] a all own x (suc k, e) = cc
answers_push problem (y ∷ ys) a all own x (zero, e) = all x (0, e)
answers_push problem (y ∷ ys) a all own x (suc k, e) = answers_push problem ys a (λ z h. all z (suc h.0, h.1)) own x (k, e)

-- ---- refused commands

-- a refused command leaves the moves as they are
refused_stays : (file : DrawFile) (ms new_ms : List Move) (n : ℕ) (command : Command) (reply : Reply) → IsStep file ms n command new_ms reply → IsRefusal reply → new_ms ≡ ms
refused_stays file ms new_ms n command (Reply.Refused refusal) step h = step.1
refused_stays file ms new_ms n command (Reply.Taken added group next) step h = absurd h

-- ---- the reply

-- the reply of a turn is that of its command
pub replies_below : (turn : CommandTurn) (before after : Offer) (command : Command) (reply : Reply) → turn.before ≡ before → turn.command ≡ command → after ≡ after_of turn
    → Replies turn reply → IsStepBelowLimit before.state.file before.state.moves command after.state.moves reply
replies_below turn before after command reply same asks is h =
    let S : Offer → Command → Offer → Type 0 = λ b k a. IsStepBelowLimit b.state.file b.state.moves k a.state.moves reply in
    subst (λ b. S b command after) same (subst (λ k. S turn.before k after) asks (subst (λ a. S turn.before turn.command a) (sym is) h))

-- a turn whose offer this is
abbrev turn_at : Offer → Turn
turn_at o = record { file = o.state.file; moves = o.state.moves }

module _ (old : Turn) (here : Offer) (view : turn_at here ≡ old) where
  pub is_state : (s : State) → s ≡ here.state → IsState s.file s.moves → IsState old.file old.moves
  is_state s same h = subst (λ t. IsState t.file t.moves) view (subst (λ x. IsState x.file x.moves) same h)

  module _ (before after : Offer) (n : ℕ) (command : Command) (reply : Reply) (same : before ≡ here) where
    -- below the limit it is that of one more command
    pub steps : n < most_commands → IsStepBelowLimit before.state.file before.state.moves command after.state.moves reply
        → IsStep old.file old.moves n command after.state.moves reply
    steps below h =
        subst (λ t. IsStep t.file t.moves n command after.state.moves reply) view
        (subst (λ o. IsStep o.state.file o.state.moves n command after.state.moves reply) same (h n below))

    -- a refused command changes nothing
    pub unchanged : after.state.file ≡ before.state.file → IsStep old.file old.moves n command after.state.moves reply → IsRefusal reply → turn_at after ≡ old
    unchanged file step refused =
        let R : DrawFile → List Move → Turn = λ f ms. record { file = f; moves = ms } in
        let of_file : after.state.file ≡ old.file = file ∙ ap (λ o. o.state.file) same ∙ ap (λ t. t.file) view in
        ap (λ f. R f after.state.moves) of_file ∙ ap (R old.file) (refused_stays old.file old.moves after.state.moves n command reply step refused)

    -- after a step from a turn in which no team waits for its group none does either
    pub none_waits : RepliesNameTeams → NoneWaitsForGroup here.state.file here.state.moves → after.state.file ≡ before.state.file
        → IsStep old.file old.moves n command after.state.moves reply → NoneWaitsForGroup after.state.file after.state.moves
    none_waits law none file step =
        let before_none : NoneWaitsForGroup old.file old.moves = subst (λ (t : Turn). NoneWaitsForGroup t.file t.moves) view none in
        let later = law.after old.file old.moves n command after.state.moves reply before_none step in
        let of_file : after.state.file ≡ old.file = file ∙ ap (λ o. o.state.file) same ∙ ap (λ t. t.file) view in
        subst (λ f. NoneWaitsForGroup f after.state.moves) (sym of_file) later
