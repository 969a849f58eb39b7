-- Of each command exactly one thing is true.
use Rattle.std.proofs.Common.{◌≡◌, ◌↔◌, ℕ, zero, suc, ◌<◌, ◌≤◌, ◌⊎◌, List, [], ◌∷◌, Option, Some, None, Result, Ok, Err, slice_get, inl, inr, refl, ap, arith}
use Rattle.rule_sets.specs.Files.{DrawFile}
use Rattle.draw_tables.specs.declared.moves.Move.{Move}
use Rattle.draw_tables.specs.declared.moves.Choice.{Choice}
use Rattle.draw_tables.specs.declared.moves.Phase.{Phase}
use Rattle.draw_tables.specs.Lists.{IsAmong}
use Rattle.draw_tables.specs.States.{phase_of, candidates, move_in}
use Rattle.draw_tables.specs.Offers.{IsOffer, IsPossible}
use Rattle.draw_tables.proofs.Numbers.{same_number}
use Rattle.draw_tables.proofs.OfferLaws.{offered_where_possible}
use Rattle.draw_state.specs.declared.commands.Word.{Word}
use Rattle.draw_state.specs.declared.commands.Command.{Command}
use Rattle.draw_state.specs.declared.commands.Action.{Action}
use Rattle.draw_state.specs.declared.replies.Refusal.{Refusal}
use Rattle.draw_state.specs.Commands.{choice_of, IsBallOf, most_commands, Refuses, causes, IsAcceptedCommand, IsRefusedCommand, IsOutcome}
use Rattle.draw_state.specs.Laws.{OneOutcome}
use Rattle.draw_state.proofs.Refusals.{first_holds, one_first, one_action, for_limit, for_form, for_unknown, for_complete, for_phase, for_excluded, accepted}

-- ---- whether a choice stands in a list

same_choice : (c d : Choice) → (c ≡ d) ⊎ (c ≡ d → ⊥)
same_choice (Choice.Team a) (Choice.Team b) = from (same_number a.0 b.0)
  where
    from : (a.0 ≡ b.0) ⊎ (a.0 ≡ b.0 → ⊥) → (Choice.Team a ≡ Choice.Team b) ⊎ (Choice.Team a ≡ Choice.Team b → ⊥)
    from (inl e) = inl (ap (λ n. Choice.Team (record { 0 = n })) e)
    from (inr n) = inr (λ e. let same : a ≡ b = cc in n (ap (λ t. t.0) same))
same_choice (Choice.Group a) (Choice.Group b) = from (same_number a b)
  where
    from : (a ≡ b) ⊎ (a ≡ b → ⊥) → (Choice.Group a ≡ Choice.Group b) ⊎ (Choice.Group a ≡ Choice.Group b → ⊥)
    from (inl e) = inl (ap (λ n. Choice.Group n) e)
    from (inr n) = inr (λ e. n cc)
same_choice (Choice.Position a) (Choice.Position b) = from (same_number a b)
  where
    from : (a ≡ b) ⊎ (a ≡ b → ⊥) → (Choice.Position a ≡ Choice.Position b) ⊎ (Choice.Position a ≡ Choice.Position b → ⊥)
    from (inl e) = inl (ap (λ n. Choice.Position n) e)
    from (inr n) = inr (λ e. n cc)
same_choice (Choice.Team a) (Choice.Group b) = inr (λ e. cc)
same_choice (Choice.Team a) (Choice.Position b) = inr (λ e. cc)
same_choice (Choice.Group a) (Choice.Team b) = inr (λ e. cc)
same_choice (Choice.Group a) (Choice.Position b) = inr (λ e. cc)
same_choice (Choice.Position a) (Choice.Team b) = inr (λ e. cc)
same_choice (Choice.Position a) (Choice.Group b) = inr (λ e. cc)

-- a choice stands in a list or not
pub is_among : (c : Choice) (cs : List Choice) → IsAmong cs c ⊎ (IsAmong cs c → ⊥)
is_among c [] = inr (λ h. let e = h.1 in cc)
is_among c (d ∷ cs) = from (same_choice d c) (is_among c cs)
  where
    from : (d ≡ c) ⊎ (d ≡ c → ⊥) → IsAmong cs c ⊎ (IsAmong cs c → ⊥) → IsAmong (d ∷ cs) c ⊎ (IsAmong (d ∷ cs) c → ⊥)
    from (inl e) later = inl (0, ap Some e)
    from (inr n) (inl h) = inl (suc h.0, h.1)
    from (inr n) (inr none) = inr (λ h. at h.0 h.1)
      where
        at : (k : ℕ) → slice_get (d ∷ cs) k ≡ Some c → ⊥
        at zero e = n cc
        at (suc k) e = none (k, e)

-- ---- verdicts

-- one number is at most the other, or the other is less
which : (n m : ℕ) → (m ≤ n) ⊎ (n < m)
which n zero = inl (omega arith)
which zero (suc m) = inr (omega arith)
which (suc n) (suc m) = up (which n m)
  where
    up : (m ≤ n) ⊎ (n < m) → (suc m ≤ suc n) ⊎ (suc n < suc m)
    up (inl le) = inl (omega arith)
    up (inr lt) = inr (omega arith)

module _ (file : DrawFile) (ms : List Move) (answered : ℕ) (command : Command) where
  -- what is accepted is not refused
  pub not_both : (a : Action) (r : Refusal) → IsAcceptedCommand file ms answered command a → IsRefusedCommand file ms answered command r → ⊥
  not_both a r h g = h.nothing_refuses r (first_holds (Refuses file ms answered command) causes r g)

  pub one_outcome : (v w : Result Action Refusal) → IsOutcome file ms answered command v → IsOutcome file ms answered command w → v ≡ w
  one_outcome (Ok a) (Ok b) h g = ap (λ x. Ok x) (one_action file command a b h.asks g.asks)
  one_outcome (Ok a) (Err r) h g = absurd (not_both a r h g)
  one_outcome (Err r) (Ok a) h g = absurd (not_both a r g h)
  one_outcome (Err r) (Err s) h g = ap (λ x. Err x) (one_first (Refuses file ms answered command) causes r s h g)

  abbrev Outcome : Type 0
  Outcome = (v : Result Action Refusal) × IsOutcome file ms answered command v

  module _ (offered : List Choice) (offer : IsOffer file ms offered) where
    -- an accepted choice is possible
    pub accepted_is_possible : (c : Choice) → IsAcceptedCommand file ms answered command (Action.Ball c) → IsPossible file ms c
    accepted_is_possible c h = from (is_among c offered) (is_among c (candidates file ms))
      where
        from : (IsAmong offered c ⊎ (IsAmong offered c → ⊥)) → (IsAmong (candidates file ms) c ⊎ (IsAmong (candidates file ms) c → ⊥)) → IsPossible file ms c
        from (inl among) candidate = (offered_where_possible file ms offered c offer).0 among
        from (inr not) (inl candidate) =
            absurd (h.nothing_refuses Refusal.Excluded (c, h.asks, candidate, λ possible. not ((offered_where_possible file ms offered c offer).1 possible)))
        from (inr not) (inr none) = absurd (h.nothing_refuses Refusal.Phase (c, h.asks, none))

    module _ (below : answered < most_commands) (word : Word) (ball : command ≡ Command.Ball word) where
      of_candidate : (c : Choice) → choice_of file word ≡ Some c → (phase_of file ms ≡ Phase.Complete → ⊥) → IsAmong (candidates file ms) c
          → (IsAmong offered c ⊎ (IsAmong offered c → ⊥)) → Outcome
      of_candidate c names goes_on candidate (inl among) =
          (Ok (Action.Ball c), accepted file ms answered command below word ball c names goes_on candidate ((offered_where_possible file ms offered c offer).0 among))
      of_candidate c names goes_on candidate (inr not) =
          (Err Refusal.Excluded, for_excluded file ms answered command below word ball c names goes_on candidate (λ possible. not ((offered_where_possible file ms offered c offer).1 possible)))

      of_choice : (c : Choice) → choice_of file word ≡ Some c → (phase_of file ms ≡ Phase.Complete → ⊥)
          → (IsAmong (candidates file ms) c ⊎ (IsAmong (candidates file ms) c → ⊥)) → Outcome
      of_choice c names goes_on (inl candidate) = of_candidate c names goes_on candidate (is_among c offered)
      of_choice c names goes_on (inr not) = (Err Refusal.Phase, for_phase file ms answered command below word ball c names goes_on not)

      in_phase : (c : Choice) → choice_of file word ≡ Some c → (phase : Phase) → phase_of file ms ≡ phase → Outcome
      in_phase c names Phase.Complete e = (Err Refusal.Complete, for_complete file ms answered command below word ball c names e)
      in_phase c names Phase.Runner e = of_choice c names (λ end. cc) (is_among c (candidates file ms))
      in_phase c names (Phase.Opponent r) e = of_choice c names (λ end. cc) (is_among c (candidates file ms))
      in_phase c names (Phase.Team pot) e = of_choice c names (λ end. cc) (is_among c (candidates file ms))
      in_phase c names (Phase.Group t) e = of_choice c names (λ end. cc) (is_among c (candidates file ms))
      in_phase c names (Phase.Position t) e = of_choice c names (λ end. cc) (is_among c (candidates file ms))

      of_word : (o : Option Choice) → choice_of file word ≡ o → Outcome
      of_word None e = (Err Refusal.Unknown, for_unknown file ms answered command below word ball e)
      of_word (Some c) e = in_phase c e (phase_of file ms) refl

    of_command : answered < most_commands → (k : Command) → command ≡ k → Outcome
    of_command below Command.Bad e = (Err Refusal.Form, for_form file ms answered command below e)
    of_command below (Command.Ball word) e = of_word below word e (choice_of file word) refl

    pub some_outcome : Outcome
    some_outcome = from (which answered most_commands)
      where
        from : (most_commands ≤ answered) ⊎ (answered < most_commands) → Outcome
        from (inl past) = (Err Refusal.Limit, for_limit file ms answered command past)
        from (inr below) = of_command below command refl

-- ---- what is offered is accepted

-- where a choice has a move, the phase is not Complete
goes_on : (file : DrawFile) (ms : List Move) (c : Choice) (m : Move) → move_in (phase_of file ms) c ≡ Some m → phase_of file ms ≡ Phase.Complete → ⊥
goes_on file ms c m move end = let none : None ≡ Some m = rw end at move in cc

module _ (file : DrawFile) (ms : List Move) (offered : List Choice) (answered : ℕ) (command : Command) (c : Choice) (offer : IsOffer file ms offered) where
  is_offered : IsAcceptedCommand file ms answered command (Action.Ball c) → (answered < most_commands) × IsBallOf file command c × IsAmong offered c
  is_offered h = (in_time (which answered most_commands), h.asks, (offered_where_possible file ms offered c offer).1 (accepted_is_possible file ms answered command offered offer c h))
    where
      in_time : (most_commands ≤ answered) ⊎ (answered < most_commands) → answered < most_commands
      in_time (inl past) = absurd (h.nothing_refuses Refusal.Limit past)
      in_time (inr below) = below

  is_accepted : (answered < most_commands) × IsBallOf file command c × IsAmong offered c → IsAcceptedCommand file ms answered command (Action.Ball c)
  is_accepted h =
      let possible = (offered_where_possible file ms offered c offer).0 h.2 in
      accepted file ms answered command h.0 h.1.0 h.1.1 c h.1.2 (goes_on file ms c possible.0 possible.1.1) possible.1.0 possible

pub offered_outcome : (file : DrawFile) (ms : List Move) (offered : List Choice) (answered : ℕ) (command : Command) (c : Choice) → IsOffer file ms offered
    → (IsAcceptedCommand file ms answered command (Action.Ball c) ↔ ((answered < most_commands) × IsBallOf file command c × IsAmong offered c))
offered_outcome file ms offered answered command c offer =
    (is_offered file ms offered answered command c offer, is_accepted file ms offered answered command c offer)

pub one_outcome_law : OneOutcome
one_outcome_law = record {
  some = λ file ms offered answered command offer. some_outcome file ms answered command offered offer;
  one = λ file ms answered command v w h g. one_outcome file ms answered command v w h g;
}
