-- What is put behind a text tells the answer.
use Rattle.std.proofs.Common.{◌≡◌, List, ℕ, ◌++◌, Result, Ok, Err, refl, sym, ap, subst, ◌∙◌, inr, append_assoc}
use Rattle.std.specs.Prelude.{OnOk}
use Rattle.count_core.specs.declared.lit.Lit.{Lit}
use Rattle.count_core.specs.declared.step.Step.{Step}
use Rattle.count_core.specs.Problems.{Problem}
use Rattle.count_core.specs.Decisions.{IsSatisfiable}
use Rattle.count_core.specs.Steps.{IsRefutation}
use Rattle.refutations.specs.Derivations.{Closing}
use Rattle.serial_search.specs.declared.outcome.Outcome.TheVariants.{Impossible}
use Rattle.serial_search.specs.Answers.{IsRight}
use Rattle.solve.specs.Answers.{impossible_text, IsAnswerTo, Grows}

-- the back was put behind what had the front put behind it
pub behind : {T E : Type 0} (r : Result T E) (new mid old front back : List ℕ) → mid ≡ old ++ front → OnOk r (new ≡ mid ++ back) → OnOk r (new ≡ old ++ (front ++ back))
behind (Ok x) new mid old front back is put = put ∙ ap (λ t. t ++ back) is ∙ append_assoc old front back
behind (Err e) new mid old front back is put = tt

-- a refutation was put behind a text
pub impossible_told : {T E : Type 0} (r : Result T E) (problem : Problem) (question : List Lit) (closed : Closing) (steps : List Step) (old new : List ℕ)
    → IsRight problem question (Impossible closed) → ¬ (IsSatisfiable closed.problem closed.question) → steps ≡ closed.steps
    → OnOk r (new ≡ old ++ impossible_text steps) → OnOk r (Grows (IsAnswerTo problem question) old new)
impossible_told (Ok x) problem question closed steps old new right fails are put =
    let no_problem = subst (λ p. ¬ (IsSatisfiable p closed.question)) right.0 fails in
    let none = subst (λ q. ¬ (IsSatisfiable problem q)) right.1 no_problem in
    (impossible_text steps, inr (record { fails = none; steps = steps; refutes = subst (IsRefutation problem question) (sym are) right.2; is_text = refl }), put)
impossible_told (Err e) problem question closed steps old new right fails are put = tt
