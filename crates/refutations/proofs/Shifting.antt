-- Accepted steps put behind others stay accepted, with shifted hints.
use Rattle.std.proofs.Common.{◌≡◌, ◌+◌, List, [], ◌∷◌, ◌++◌, length, refl, sym, ap, ◌∙◌, Some, subst, append_assoc, append-nil}
use Rattle.std.specs.Prelude.{option_map, map}
use Rattle.std.specs.List.{AllByRecursion as Each}
use Rattle.std.proofs.lemmas.List.{map-append}
use Rattle.std.proofs.lemmas.Option.{slice_get-map}
use Rattle.count_core.specs.declared.count_rule.CountRule.{CountRule}
use Rattle.count_core.specs.declared.hint.Hint.{Hint}
use Rattle.count_core.specs.declared.hint.Hint.TheVariants.{Rule, Step as Earlier}
use Rattle.count_core.specs.declared.step.Step.{Step}
use Rattle.count_core.specs.Problems.{Problem}
use Rattle.count_core.specs.Steps.{rule_at, IsAccepted, AreAcceptedAfter, AreAccepted}
use Rattle.count_core.proofs.Lists.{get_behind}
use Rattle.count_core.proofs.Renumbering.{mapped_name_the_same, accepted_moved, step_named, append_after}
use Rattle.refutations.specs.Shifts.{shifted_hint, shifted_step}

-- a fact of any element is one of each
each_of_all : {X : Type 0} (P : X → Type 0) (xs : List X) → ((x : X) → P x) → Each P xs
each_of_all P [] h = tt
each_of_all P (x ∷ xs) h = (h x, each_of_all P xs h)

module _ (problem : Problem) (one : List Step) where
  names_moved : (earlier : List Step) (h : Hint) (r : CountRule) → rule_at problem earlier h ≡ Some r → rule_at problem (one ++ map (shifted_step (length one)) earlier) (shifted_hint (length one) h) ≡ Some r
  names_moved earlier (Rule n) r e = e
  names_moved earlier (Earlier n) r e =
      step_named problem earlier (one ++ map (shifted_step (length one)) earlier) n (n + length one)
      (λ s is. (shifted_step (length one) s, get_behind one (map (shifted_step (length one)) earlier) n ∙ slice_get-map (shifted_step (length one)) earlier n ∙ ap (option_map (shifted_step (length one))) is, refl)) r e

  shift_accepted : (earlier : List Step) (s : Step) → IsAccepted problem earlier s → IsAccepted problem (one ++ map (shifted_step (length one)) earlier) (shifted_step (length one) s)
  shift_accepted earlier s e =
      accepted_moved problem earlier (one ++ map (shifted_step (length one)) earlier) s (map (shifted_hint (length one)) s.hints)
      (mapped_name_the_same (rule_at problem earlier) (rule_at problem (one ++ map (shifted_step (length one)) earlier)) (shifted_hint (length one)) s.hints
      (each_of_all (λ h. (r : CountRule) → rule_at problem earlier h ≡ Some r → rule_at problem (one ++ map (shifted_step (length one)) earlier) (shifted_hint (length one) h) ≡ Some r) s.hints (names_moved earlier))) e

  next_moved : (earlier : List Step) (s : Step) → (one ++ map (shifted_step (length one)) (earlier ++ s ∷ [])) ≡ (one ++ map (shifted_step (length one)) earlier) ++ shifted_step (length one) s ∷ []
  next_moved earlier s = ap (λ xs. one ++ xs) (map-append (shifted_step (length one)) earlier (s ∷ [])) ∙ sym (append_assoc one (map (shifted_step (length one)) earlier) (shifted_step (length one) s ∷ []))

  shift_after : (earlier two : List Step) → AreAcceptedAfter problem earlier two → AreAcceptedAfter problem (one ++ map (shifted_step (length one)) earlier) (map (shifted_step (length one)) two)
  shift_after earlier [] h = tt
  shift_after earlier (s ∷ two) h =
      (shift_accepted earlier s h.0, subst (λ e. AreAcceptedAfter problem e (map (shifted_step (length one)) two)) (next_moved earlier s) (shift_after (earlier ++ s ∷ []) two h.1))

-- the steps of two accepted lists, one behind the other
pub appended_accepted : (problem : Problem) (one two : List Step) → AreAccepted problem one → AreAccepted problem two → AreAccepted problem (one ++ map (shifted_step (length one)) two)
appended_accepted problem one two h g =
    append_after problem [] one (map (shifted_step (length one)) two) h
    (subst (λ e. AreAcceptedAfter problem e (map (shifted_step (length one)) two)) (append-nil one) (shift_after problem one [] two g))
