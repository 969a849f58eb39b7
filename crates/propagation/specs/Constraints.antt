-- What is propagated: the rules of a problem and the clauses that were added, which are constraints
-- alike, numbered from 0.
use Rattle.std.specs.Prelude.{◌≡◌, ℕ, ◌-◌, nat_lt, if◌then◌else◌, List, [], ◌∷◌, ◌++◌, length, map, Some, slice_get, slice_index_or}
use Rattle.count_core.specs.declared.lit.Lit.{Lit}
use Rattle.count_core.specs.declared.hint.Hint.{Hint}
use Rattle.count_core.specs.declared.hint.Hint.TheVariants.{Rule, Step as Earlier}
use Rattle.count_core.specs.declared.count_rule.CountRule.{CountRule}
use Rattle.count_core.specs.Problems.{Problem}
use Rattle.count_core.specs.PartialAssignments.{PartialAssignment, IsQuiet}
use Rattle.count_core.specs.Steps.{clause_rule}
use Rattle.propagation.specs.declared.clause.Clause.{Clause}

-- an added clause as a rule: at least one of its literals
abbrev pub rule_of_clause : Clause → CountRule
rule_of_clause c = clause_rule c.lits

-- first the rules of the problem, then the added clauses
abbrev pub constraints_of : Problem → List Clause → List CountRule
constraints_of problem clauses = problem.rules ++ map rule_of_clause clauses

-- the clauses with one more at the end, added with the number of its step
abbrev pub with_clause : List Clause → List Lit → ℕ → List Clause
with_clause clauses ls step = clauses ++ record { lits = ls; step = step } ∷ []

-- The hint names the constraint: a rule by its number, an added clause by the number of its step.
abbrev pub IsNamed : Problem → List Clause → Hint → CountRule → Type 0
IsNamed problem clauses (Rule n) r = slice_get problem.rules n ≡ Some r
IsNamed problem clauses (Earlier s) r =
    (k : ℕ) × (c : Clause) × (slice_get clauses k ≡ Some c) × (c.step ≡ s) × (r ≡ rule_of_clause c)

-- The constraint neither conflicts nor forces.
abbrev pub IsQuietConstraint : PartialAssignment → CountRule → Type 0
IsQuietConstraint p r = IsQuiet p r.lits r.lo r.hi

-- ---- by number

-- what is read past the end
abbrev pub no_constraint : CountRule
no_constraint = record { lits = []; lo = 0; hi = 0 }

abbrev pub no_clause : Clause
no_clause = record { lits = []; step = 0 }

-- the constraint with this number, or one without literals past the end
abbrev pub nth : List CountRule → ℕ → CountRule
nth rules n = slice_index_or rules n no_constraint

-- the constraint with this number
abbrev pub constraint_at : Problem → List Clause → ℕ → CountRule
constraint_at problem clauses n = nth (constraints_of problem clauses) n

-- the number of the step of the clause at this place
abbrev pub step_at : List Clause → ℕ → ℕ
step_at clauses k = (slice_index_or clauses k no_clause).step

-- the hint that names the constraint with this number
abbrev pub hint_at : Problem → List Clause → ℕ → Hint
hint_at problem clauses n =
    if nat_lt n (length problem.rules)
    then Rule n
    else Earlier (step_at clauses (n - length problem.rules))
