-- The last step of a list, and lemmas and refutations that begin a log.
use Rattle.std.proofs.Common.{◌≡◌, ℕ, zero, suc, ◌+◌, ◌-◌, ◌<◌, List, [], ◌∷◌, ◌++◌, length, take, refl, sym, ap, ◌∙◌, arith, Some, slice_get, subst}
use Rattle.std.proofs.lemmas.List.{length-take-le}
use Rattle.count_core.specs.declared.lit.Lit.{Lit}
use Rattle.count_core.specs.declared.step.Step.{Step}
use Rattle.count_core.specs.Problems.{Problem}
use Rattle.count_core.specs.Assignments.{Follows}
use Rattle.count_core.specs.Steps.{AreAccepted, NegatesOnly, IsRefutation}
use Rattle.count_core.proofs.Lists.{get_middle}
use Rattle.count_core.proofs.Soundness.{clause_follows}
use Rattle.count_core.proofs.Renumbering.{take_accepted, last_of_take}
use Rattle.refutations.specs.Derivations.{clause_of, clause_at, last_clause, IsLemma}

-- a number below the length has a step
pub step_there : {X : Type 0} (xs : List X) (n : ℕ) → n < length xs → (x : X) × (slice_get xs n ≡ Some x)
step_there [] n lt = absurd (omega arith)
step_there (x ∷ xs) zero lt = (x, refl)
step_there (x ∷ xs) (suc n) lt = step_there xs n (omega arith)

-- the steps up to one end with its clause
pub last_of_first : (steps : List Step) (n : ℕ) → n < length steps → last_clause (take (n + 1) steps) ≡ clause_at steps n
last_of_first steps n lt =
    let there = step_there steps n lt in
    let last = last_of_take steps n there.0 there.1 in
    ap clause_of last ∙ sym (ap clause_of there.1)

-- the steps up to one of an accepted list are a lemma
pub first_lemma : (problem : Problem) (steps : List Step) (n : ℕ) → n < length steps → AreAccepted problem steps → IsLemma problem (take (n + 1) steps)
first_lemma problem steps n lt h = record {
  accepted = take_accepted problem (n + 1) steps h;
  some = omega (arith, length-take-le (n + 1) steps (omega arith));
}

-- and a refutation of a question, where its clause holds only negations of its literals
pub first_refutation : (problem : Problem) (question : List Lit) (steps : List Step) (n : ℕ) → n < length steps → AreAccepted problem steps → NegatesOnly question (clause_at steps n) → IsRefutation problem question (take (n + 1) steps)
first_refutation problem question steps n lt h negates =
    let there = step_there steps n lt in
    record {
      accepted = take_accepted problem (n + 1) steps h;
      last = there.0;
      is_last = last_of_take steps n there.0 there.1;
      negates = subst (NegatesOnly question) (ap clause_of there.1) negates;
    }

-- the clause of a lemma's last step follows
pub last_follows : (problem : Problem) (steps : List Step) → IsLemma problem steps → Follows problem (last_clause steps)
last_follows problem steps h =
    let lt : length steps - 1 < length steps = omega (arith, h.some) in
    let there = step_there steps (length steps - 1) lt in
    subst (Follows problem) (sym (ap clause_of there.1)) (clause_follows problem steps h.accepted (length steps - 1) there.0 there.1)

-- a step put at the end stands at the number of those before it
pub clause_pushed : (steps : List Step) (s : Step) (n : ℕ) → n ≡ length steps → clause_at (steps ++ s ∷ []) n ≡ s.clause
clause_pushed steps s n e = rw e (ap clause_of (get_middle steps s []))
