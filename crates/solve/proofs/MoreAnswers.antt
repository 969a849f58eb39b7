-- One more question is answered, and one more question may be asked.
use Rattle.std.proofs.Common.{◌≡◌, ℕ, ◌+◌, ◌<◌, List, [], ◌∷◌, ◌++◌, length, get_or, take, drop, refl, sym, ap, ◌∙◌, subst, append_assoc, append-nil}
use Rattle.std.proofs.lemmas.List.{drop_more}
use Rattle.count_core.specs.declared.lit.Lit.{Lit}
use Rattle.count_core.specs.Problems.{Problem}
use Rattle.solve.specs.Answers.{IsAnswerTo, AreAnswersTo, Grows}

module _ (problem : Problem) (all : List (List Lit)) where
  -- Whatever text answers these questions makes, put after the text, the answers to all.
  abbrev pub SoFar : List ℕ → List (List Lit) → Type 0
  SoFar text left = (rest : List ℕ) → AreAnswersTo problem left rest → AreAnswersTo problem all (text ++ rest)

  pub start : (text : List ℕ) → text ≡ [] → SoFar text all
  start text none rest h = subst (λ t. AreAnswersTo problem all (t ++ rest)) (sym none) h

  pub goes_on : (text more : List ℕ) (i : ℕ) (question : List Lit) → SoFar text (drop i all) → i < length all → question ≡ get_or all i question
      → Grows (IsAnswerTo problem question) text more → SoFar more (drop (i + 1) all)
  goes_on text more i question so_far lt is grown rest h =
      let left : question ∷ drop (i + 1) all ≡ drop i all = ap (λ q. q ∷ drop (i + 1) all) is ∙ sym (drop_more all i question lt) in
      let whole = so_far (grown.0 ++ rest) (subst (λ qs. AreAnswersTo problem qs (grown.0 ++ rest)) left (grown.0, rest, grown.1, h, refl)) in
      let joined : text ++ (grown.0 ++ rest) ≡ more ++ rest = sym (append_assoc text grown.0 rest) ∙ ap (λ t. t ++ rest) (sym grown.2) in
      subst (AreAnswersTo problem all) joined whole

  pub ends : (text : List ℕ) (left : List (List Lit)) → left ≡ [] → SoFar text left → AreAnswersTo problem all text
  ends text left none so_far =
      subst (AreAnswersTo problem all) (append-nil text) (so_far [] (subst (λ qs. AreAnswersTo problem qs []) (sym none) refl))
