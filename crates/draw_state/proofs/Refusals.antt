-- The first cause that refuses a command, cause by cause in their order, and when none does.
use Rattle.std.proofs.Common.{◌≡◌, ◌≢◌, ℕ, ◌<◌, ◌≤◌, List, [], ◌∷◌, Some, None, inl, inr, refl, ap, subst, arith}
use Rattle.rule_sets.specs.Files.{DrawFile}
use Rattle.draw_tables.specs.declared.moves.Move.{Move}
use Rattle.draw_tables.specs.declared.moves.Choice.{Choice}
use Rattle.draw_tables.specs.declared.moves.Phase.{Phase}
use Rattle.draw_tables.specs.Lists.{IsAmong}
use Rattle.draw_tables.specs.States.{phase_of, candidates}
use Rattle.draw_tables.specs.Offers.{IsPossible}
use Rattle.draw_state.specs.declared.commands.Word.{Word}
use Rattle.draw_state.specs.declared.commands.Command.{Command}
use Rattle.draw_state.specs.declared.commands.Action.{Action}
use Rattle.draw_state.specs.declared.replies.Refusal.{Refusal}
use Rattle.draw_state.specs.Commands.{choice_of, IsBallOf, IsActionOf, most_commands, Refuses, IsFirst, IsRefusedCommand, IsAcceptedCommand}

-- what is first has the property
pub first_holds : {A : Type 0} (P : A → Type 0) (xs : List A) (x : A) → IsFirst P xs x → P x
first_holds P [] x h = absurd h
first_holds P (y ∷ ys) x (inl (same, holds)) = rw same holds
first_holds P (y ∷ ys) x (inr (not, rest)) = first_holds P ys x rest

-- at most one is first
pub one_first : {A : Type 0} (P : A → Type 0) (xs : List A) (x y : A) → IsFirst P xs x → IsFirst P xs y → x ≡ y
one_first P [] x y h g = absurd h
one_first P (z ∷ zs) x y (inl (is, holds)) (inl (same, also)) = cc
one_first P (z ∷ zs) x y (inl (is, holds)) (inr (not, rest)) = absurd (not holds)
one_first P (z ∷ zs) x y (inr (not, rest)) (inl (is, holds)) = absurd (not holds)
one_first P (z ∷ zs) x y (inr (not, rest)) (inr (also, later)) = one_first P zs x y rest later

module _ (file : DrawFile) (ms : List Move) (answered : ℕ) (command : Command) where
  abbrev Cause : Refusal → Type 0
  Cause r = Refuses file ms answered command r

  abbrev RefusedFor : Refusal → Type 0
  RefusedFor r = IsRefusedCommand file ms answered command r

  pub for_limit : most_commands ≤ answered → RefusedFor Refusal.Limit
  for_limit past = inl (refl, past)

  module _ (below : answered < most_commands) where
    in_time : ¬ Cause Refusal.Limit
    in_time past = omega arith

    pub for_form : command ≡ Command.Bad → RefusedFor Refusal.Form
    for_form bad = inr (in_time, inl (refl, bad))

    module _ (word : Word) (ball : command ≡ Command.Ball word) where
      is_command : ¬ Cause Refusal.Form
      is_command bad = cc

      same_word : (w : Word) → command ≡ Command.Ball w → word ≡ w
      same_word w e = cc

      pub for_unknown : choice_of file word ≡ None → RefusedFor Refusal.Unknown
      for_unknown none = inr (in_time, inr (is_command, inl (refl, (word, ball, none))))

      module _ (c : Choice) (names : choice_of file word ≡ Some c) where
        is_known : ¬ Cause Refusal.Unknown
        is_known h =
            let same = same_word h.0 h.1 in
            let none : choice_of file word ≡ None = rw same h.2 in
            cc

        same_choice : (d : Choice) → IsBallOf file command d → c ≡ d
        same_choice d h =
            let same = same_word h.0 h.1 in
            let some : choice_of file word ≡ Some d = rw same h.2 in
            cc

        pub for_complete : phase_of file ms ≡ Phase.Complete → RefusedFor Refusal.Complete
        for_complete end = inr (in_time, inr (is_command, inr (is_known, inl (refl, (word, ball, end)))))

        module _ (goes_on : phase_of file ms ≢ Phase.Complete) where
          not_over : ¬ Cause Refusal.Complete
          not_over h = goes_on h.2

          pub for_phase : ¬ IsAmong (candidates file ms) c → RefusedFor Refusal.Phase
          for_phase not = inr (in_time, inr (is_command, inr (is_known, inr (not_over, inl (refl, (c, (word, ball, names), not))))))

          module _ (candidate : IsAmong (candidates file ms) c) where
            is_candidate : ¬ Cause Refusal.Phase
            is_candidate h = h.2 (subst (λ d. IsAmong (candidates file ms) d) (same_choice h.0 h.1) candidate)

            pub for_excluded : ¬ IsPossible file ms c → RefusedFor Refusal.Excluded
            for_excluded not = inr (in_time, inr (is_command, inr (is_known, inr (not_over, inr (is_candidate, inl (refl, (c, (word, ball, names), candidate, not)))))))

            pub accepted : IsPossible file ms c → IsAcceptedCommand file ms answered command (Action.Ball c)
            accepted possible = record { asks = (word, ball, names); nothing_refuses = none }
              where
                none : (r : Refusal) → ¬ Cause r
                none Refusal.Limit h = in_time h
                none Refusal.Form h = is_command h
                none Refusal.Unknown h = is_known h
                none Refusal.Complete h = not_over h
                none Refusal.Phase h = is_candidate h
                none Refusal.Excluded h = h.3 (subst (λ d. IsPossible file ms d) (same_choice h.0 h.1) possible)

-- a ball names one choice, and a command asks for one action
pub one_choice : (file : DrawFile) (command : Command) (c d : Choice) → IsBallOf file command c → IsBallOf file command d → c ≡ d
one_choice file command c d h g =
    let same : h.0 ≡ g.0 = cc in
    let some : choice_of file h.0 ≡ Some d = rw same g.2 in
    let e = h.2 in
    cc

pub one_action : (file : DrawFile) (command : Command) (a b : Action) → IsActionOf file command a → IsActionOf file command b → a ≡ b
one_action file command (Action.Ball c) (Action.Ball d) h g = ap (λ x. Action.Ball x) (one_choice file command c d h g)
