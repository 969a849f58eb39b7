-- What was read to its end is what the source held, and one thing alone is said of it.
use Rattle.std.proofs.Common.{◌≡◌, ℕ, zero, suc, ◌⊎◌, List, [], ◌∷◌, ◌++◌, take, slice_get, Option, Some, None, inl, inr, sym, ap, subst, ◌∙◌, append-nil, append_assoc}
use Rattle.std.specs.Prelude.{IfSome, IsSomeAnd}
use Rattle.std.specs.Fmt.{decimal}
use Rattle.std.specs.Io.KnownBytes.{Consumes, IsAtEnd, Appends}
use Rattle.std.proofs.lemmas.Fmt.{decimal_injective}
use Rattle.draw_ports.specs.Causes.{AppendsSome}
use Rattle.count_core.specs.declared.count_rule.CountRule.{CountRule}
use Rattle.count_core.specs.declared.step.Step.{Step}
use Rattle.count_core.specs.Problems.{Problem, first_fault}
use Rattle.count_core.specs.Steps.{failing_hint, AreAccepted, AreAcceptedAfter}
use Rattle.cert_checker.specs.Checks.{IsFirstBad}
use Rattle.list_texts.specs.Limits.{AreLimit}
use Rattle.stepcheck.specs.Runs.{IsAcceptedList, IsBadList, IsTextWhere, IsAcceptedText, HasBadStep, IsApprovalOf, IsObjectionTo, IsRefusalOf, IsRefused, Gains, GainsPart}
use Rattle.list_texts.proofs.Lists.{one_list}

-- ---- the source

-- what the source told is what was read
pub read_all_of : (bytes : List ℕ) (left rest : Option (List ℕ)) (P : List ℕ → Type 0) → Consumes left rest bytes → IsAtEnd rest → P bytes → IfSome left P
read_all_of bytes None rest P p q h = tt
read_all_of bytes (Some x) None P p q h = absurd p
read_all_of bytes (Some x) (Some y) P p q h = let same : x ≡ bytes = p ∙ ap (λ l. bytes ++ l) q ∙ append-nil bytes in subst P (sym same) h

-- what the source tells is so of what was read
pub told : (bytes : List ℕ) (left rest : Option (List ℕ)) (P : List ℕ → Type 0) → Consumes left rest bytes → IsAtEnd rest → IsSomeAnd left P → P bytes
told bytes None rest P p q h = absurd h
told bytes (Some x) None P p q h = absurd p
told bytes (Some x) (Some y) P p q h = let same : x ≡ bytes = p ∙ ap (λ l. bytes ++ l) q ∙ append-nil bytes in subst P same h

module _ (bytes text : List ℕ) (left rest old new : Option (List ℕ)) where
  pub gains : (IsSo : List ℕ → List ℕ → Type 0) → Consumes left rest bytes → IsAtEnd rest → IsSo bytes text → Appends old new text → Gains IsSo left old new
  gains IsSo p q h e = read_all_of bytes left rest (λ i. (t : List ℕ) × IsSo i t × Appends old new t) p q (text, h, e)

  pub gains_part : Consumes left rest bytes → IsAtEnd rest → IsApprovalOf bytes text ⊎ (IsObjectionTo bytes text ⊎ IsRefusalOf bytes text) → AppendsSome old new text → GainsPart left old new
  gains_part p q h e = read_all_of bytes left rest (λ i. (t : List ℕ) × (IsApprovalOf i t ⊎ (IsObjectionTo i t ⊎ IsRefusalOf i t)) × AppendsSome old new t) p q (text, h, e)

-- the words have one limit
pub one_limit : (words : List (List ℕ)) (a b : ℕ) → AreLimit words a → AreLimit words b → a ≡ b
one_limit words a b h g = let both = sym h.0 ∙ g.0 in let same : decimal a ≡ decimal b = cc in decimal_injective a b h.1 g.1 same

-- ---- an accepted list has no bad step

accepted_at : (problem : Problem) (earlier steps : List Step) (n : ℕ) (step : Step) → AreAcceptedAfter problem earlier steps → slice_get steps n ≡ Some step → failing_hint problem (earlier ++ take n steps) step ≡ None
accepted_at problem earlier [] n step h e = cc
accepted_at problem earlier (s ∷ steps) zero step h e = let same : s ≡ step = cc in rw (append-nil, ← same) h.0
accepted_at problem earlier (s ∷ steps) (suc n) step h e =
    let later = accepted_at problem (earlier ++ s ∷ []) steps n step h.1 e in
    rw (← append_assoc earlier (s ∷ []) (take n steps)) later

not_bad : (problem : Problem) (steps : List Step) (n hint : ℕ) → AreAccepted problem steps → IsFirstBad problem steps n hint → ⊥
not_bad problem steps n hint h g = let none = accepted_at problem [] steps n g.step h g.is_step in let clash = sym none ∙ g.fails in cc

-- ---- one thing is said of one text

module _ (bytes : List ℕ) where
  -- of two that are said of a text, both are said of one list
  same_text : (P Q : ℕ → List CountRule → List Step → Type 0) → IsTextWhere P bytes → IsTextWhere Q bytes → (atoms : ℕ) × (rules : List CountRule) × (steps : List Step) × P atoms rules steps × Q atoms rules steps
  same_text P Q h g =
      let same = one_list bytes g.0 g.1 g.2 g.3 h.0 h.1 h.2 h.3 in
      (g.0, g.1, g.2, subst (λ (l : ℕ × List CountRule × List Step). P l.0 l.1 l.2) (λ i. (same.0 i, same.1 i, same.2 i)) h.4, g.4)

  pub accepted_not_bad : IsAcceptedText bytes → HasBadStep bytes → ⊥
  accepted_not_bad h g =
      let both = same_text IsAcceptedList (λ atoms rules steps. IsBadList atoms rules steps g.0 g.1) h g.2 in
      not_bad _ both.2 g.0 g.1 both.3.accepted both.4.bad

  pub accepted_not_refused : IsAcceptedText bytes → IsRefused bytes → ⊥
  accepted_not_refused h (inl none) = none h.0 h.1 h.2 h.3
  accepted_not_refused h (inr g) =
      let both = same_text IsAcceptedList (λ atoms rules steps. first_fault atoms 0 rules ≡ Some g.0) h g.1 in
      let clash = sym both.3.no_fault ∙ both.4 in
      cc

  pub bad_not_refused : HasBadStep bytes → IsRefused bytes → ⊥
  bad_not_refused h (inl none) = none h.2.0 h.2.1 h.2.2 h.2.3
  bad_not_refused h (inr g) =
      let both = same_text (λ atoms rules steps. IsBadList atoms rules steps h.0 h.1) (λ atoms rules steps. first_fault atoms 0 rules ≡ Some g.0) h.2 g.1 in
      let clash = sym both.3.no_fault ∙ both.4 in
      cc

-- what is told is so
pub told_bad : (bytes text : List ℕ) → IsObjectionTo bytes text → HasBadStep bytes
told_bad bytes text h = (h.0, h.1, h.2)

pub told_refused : (bytes text : List ℕ) → IsRefusalOf bytes text → IsRefused bytes
told_refused bytes text (inl h) = inl h.0
told_refused bytes text (inr h) = inr (h.0, h.1)
