-- Which hint of a step is the failing one.
use Rattle.std.specs.Prelude.{◌≡◌, ℕ, ◌+◌, ◌==◌, ◌⊎◌, ◌↔◌, Bool, true, false, List, [], ◌∷◌, length, take, Option, Some, None, slice_get}
use Rattle.count_core.specs.declared.hint.Hint.{Hint}
use Rattle.count_core.specs.declared.step.Step.{Step}
use Rattle.count_core.specs.declared.count_rule.CountRule.{CountRule}
use Rattle.count_core.specs.Problems.{Problem}
use Rattle.count_core.specs.PartialAssignments.{PartialAssignment, conflicts, forces, forced_assignment}
use Rattle.count_core.specs.Steps.{rule_at, assumed_negation, is_clause, failing_hint}

-- The hints force one after the other, without a conflict, and lead from p to q.
abbrev pub LeadTo : (Hint → Option CountRule) → PartialAssignment → List Hint → PartialAssignment → Type 0
LeadTo find p [] q = p ≡ q
LeadTo find p (h ∷ hs) q =
    (r : CountRule) × (find h ≡ Some r) × (conflicts p r.lits r.lo r.hi ≡ false) × (forces p r.lits r.lo r.hi ≡ true)
    × LeadTo find (forced_assignment p r.lits r.lo r.hi) hs q

-- With q set, the hint is faulty: it names no rule; or its rule conflicts, and it is not the last
-- hint; or its rule neither conflicts nor forces.
abbrev pub IsFaulty : (Hint → Option CountRule) → PartialAssignment → Hint → Bool → Type 0
IsFaulty find q h last =
    (find h ≡ None)
    ⊎ ((r : CountRule) × (find h ≡ Some r) × (conflicts q r.lits r.lo r.hi ≡ true) × (last ≡ false))
    ⊎ ((r : CountRule) × (find h ≡ Some r) × (conflicts q r.lits r.lo r.hi ≡ false) × (forces q r.lits r.lo r.hi ≡ false))

-- With p set, the hints fail at n: those before n force without a conflict; and after them hint n is
-- faulty, or no hint is left, so that none conflicts.
pub record FailAt (find : Hint → Option CountRule) (p : PartialAssignment) (hints : List Hint) (n : ℕ) : Type 0 where
  pub reached : PartialAssignment
  pub before : LeadTo find p (take n hints) reached
  pub after : (n ≡ length hints) ⊎ ((h : Hint) × (slice_get hints n ≡ Some h) × IsFaulty find reached h (n + 1 == length hints))

-- n is the failing hint of the step: 0 where its clause has a literal out of range or one atom twice;
-- else, with the clause's negation assumed, its hints fail at n. That is 0 where it has no hint.
abbrev pub IsFailingHint : Problem → List Step → Step → ℕ → Type 0
IsFailingHint problem earlier s n =
    ((is_clause problem s.clause ≡ false) × (n ≡ 0))
    ⊎ ((is_clause problem s.clause ≡ true) × FailAt (rule_at problem earlier) (assumed_negation problem.atoms s.clause) s.hints n)

-- The failing hint that is reported of a step is exactly its failing hint.
abbrev pub TellsFailingHint : Type 0
TellsFailingHint = (problem : Problem) (earlier : List Step) (s : Step) (n : ℕ) → (failing_hint problem earlier s ≡ Some n) ↔ IsFailingHint problem earlier s n
