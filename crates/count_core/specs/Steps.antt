-- Accepted steps: reverse unit propagation with hints, as in LRAT, over count rules.
use Rattle.std.specs.Prelude.{◌≡◌, ℕ, ◌+◌, ◌-◌, Bool, true, false, if◌then◌else◌, List, [], ◌∷◌, ◌++◌, length, Option, Some, None, slice_get, option_map, replicate, Contains}
use Rattle.std.specs.List.{AllByRecursion}
use Rattle.count_core.specs.declared.lit.Lit.{Lit}
use Rattle.count_core.specs.declared.hint.Hint.{Hint}
use Rattle.count_core.specs.declared.hint.Hint.TheVariants.{Rule, Step as Earlier}
use Rattle.count_core.specs.declared.step.Step.{Step}
use Rattle.count_core.specs.declared.count_rule.CountRule.{CountRule}
use Rattle.count_core.specs.Problems.{Problem, are_distinct_within}
use Rattle.count_core.specs.Assignments.{negation}
use Rattle.count_core.specs.PartialAssignments.{PartialAssignment, conflicts, forces, forced_assignment, assign_all}

-- a step, by its clause and hints
abbrev pub step_of : List Lit → List Hint → Step
step_of clause hints = record { clause = clause; hints = hints }

-- a clause as a rule: at least one of its literals
abbrev pub clause_rule : List Lit → CountRule
clause_rule lits = record { lits = lits; lo = 1; hi = length lits }

-- the rule that a hint names: a rule of the problem, or the clause of an earlier step
abbrev pub rule_at : Problem → List Step → Hint → Option CountRule
rule_at problem earlier (Rule n) = slice_get problem.rules n
rule_at problem earlier (Earlier n) = option_map (λ (s : Step). clause_rule s.clause) (slice_get earlier n)

-- no hint comes after
abbrev pub is_last : List Hint → Bool
is_last [] = true
is_last (h ∷ hs) = false

-- One hint, number i, that names the rule: the last one has to conflict. Another must not, and has to
-- force; then `go` says what comes after the literals that it forces.
abbrev pub apply_hint : PartialAssignment → Option CountRule → Bool → ℕ → (PartialAssignment → Option ℕ) → Option ℕ
apply_hint p None last i go = Some i
apply_hint p (Some r) last i go =
    if conflicts p r.lits r.lo r.hi
    then (if last then None else Some i)
    else (if forces p r.lits r.lo r.hi then go (forced_assignment p r.lits r.lo r.hi) else Some i)

-- The hints applied in order, where `find` gives the rule of a hint: the number of the hint that
-- fails, counted from i, or none. Where none is faulty and the last one only forces, that is the
-- number past the last.
abbrev pub failing_from : (Hint → Option CountRule) → PartialAssignment → List Hint → ℕ → Option ℕ
failing_from find p [] i = Some i
failing_from find p (h ∷ hs) i = apply_hint p (find h) (is_last hs) i (λ q. failing_from find q hs (i + 1))

-- the clause's negation assumed: just its literals are set, each to false
abbrev pub assumed_negation : ℕ → List Lit → PartialAssignment
assumed_negation atoms clause = assign_all false clause (replicate atoms None)

-- the literals are over different atoms of the problem
abbrev pub is_clause : Problem → List Lit → Bool
is_clause problem clause = are_distinct_within problem.atoms clause

-- The failing hint of a step after earlier ones, from 0, or none where it is accepted.
abbrev pub failing_hint : Problem → List Step → Step → Option ℕ
failing_hint problem earlier s =
    if is_clause problem s.clause
    then failing_from (rule_at problem earlier) (assumed_negation problem.atoms s.clause) s.hints 0
    else Some 0

-- The step is accepted after the earlier ones: with the negation of its clause assumed, each hint but
-- the last forces without a conflict, and the last one conflicts.
abbrev pub IsAccepted : Problem → List Step → Step → Type 0
IsAccepted problem earlier s = failing_hint problem earlier s ≡ None

-- With p set, the hints lead to a conflict: each but the last names a rule that forces without a
-- conflict, and the last names a rule that conflicts.
abbrev pub LeadToConflict : (Hint → Option CountRule) → PartialAssignment → List Hint → Type 0
LeadToConflict find p [] = ⊥
LeadToConflict find p (h ∷ []) = (r : CountRule) × (find h ≡ Some r) × (conflicts p r.lits r.lo r.hi ≡ true)
LeadToConflict find p (h ∷ g ∷ hs) =
    (r : CountRule) × (find h ≡ Some r) × (conflicts p r.lits r.lo r.hi ≡ false) × (forces p r.lits r.lo r.hi ≡ true)
    × LeadToConflict find (forced_assignment p r.lits r.lo r.hi) (g ∷ hs)

-- Each step is accepted after the earlier ones and those before it.
abbrev pub AreAcceptedAfter : Problem → List Step → List Step → Type 0
AreAcceptedAfter problem earlier [] = Unit {0}
AreAcceptedAfter problem earlier (s ∷ steps) = IsAccepted problem earlier s × AreAcceptedAfter problem (earlier ++ s ∷ []) steps

-- An accepted list: each step is accepted after those before it.
abbrev pub AreAccepted : Problem → List Step → Type 0
AreAccepted problem steps = AreAcceptedAfter problem [] steps

-- each literal of the clause is the negation of one of the question's
abbrev pub NegatesOnly : List Lit → List Lit → Type 0
NegatesOnly question clause = AllByRecursion (λ l. Contains question (negation l)) clause

-- the list has a last step, and this is it
abbrev pub HasLast : List Step → Step → Type 0
HasLast steps s = slice_get steps (length steps - 1) ≡ Some s

-- A refutation of a question: an accepted list of at least one step, whose last clause holds only
-- negations of the question's literals.
pub record IsRefutation (problem : Problem) (question : List Lit) (steps : List Step) : Type 0 where
  pub accepted : AreAccepted problem steps
  pub last : Step
  pub is_last : HasLast steps last
  pub negates : NegatesOnly question last.clause
