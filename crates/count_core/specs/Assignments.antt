-- Whole assignments, and what they satisfy. An assignment is a list of truth values by atom, of any
-- length: an atom past its end is false.
use Rattle.std.specs.Prelude.{◌≡◌, ℕ, ◌≤◌, Bool, true, false, not, List, count_by, slice_index_or}
use Rattle.std.specs.List.{list_any, AllByRecursion}
use Rattle.count_core.specs.declared.lit.Lit.{Lit}
use Rattle.count_core.specs.declared.count_rule.CountRule.{CountRule}
use Rattle.count_core.specs.Problems.{Problem}

abbrev pub value_of : List Bool → ℕ → Bool
value_of values a = slice_index_or values a false

-- a truth value under the sign of a literal
abbrev pub under_sign : Bool → Bool → Bool
under_sign true b = b
under_sign false b = not b

-- the literal is true
abbrev pub makes_true : List Bool → Lit → Bool
makes_true values l = under_sign l.positive (value_of values l.atom.0)

-- the literal that is true exactly where this one is false
abbrev pub negation : Lit → Lit
negation l = record { atom = l.atom; positive = not l.positive }

-- how many of the literals are true
abbrev pub true_number : List Bool → List Lit → ℕ
true_number values lits = count_by (makes_true values) lits

-- From lo to hi of the rule's literals are true.
abbrev pub SatisfiesRule : List Bool → CountRule → Type 0
SatisfiesRule values r = (r.lo ≤ true_number values r.lits) × (true_number values r.lits ≤ r.hi)

-- Each rule of the problem is satisfied.
abbrev pub Satisfies : List Bool → Problem → Type 0
Satisfies values problem = AllByRecursion (SatisfiesRule values) problem.rules

-- Each literal of the question is true.
abbrev pub SatisfiesQuestion : List Bool → List Lit → Type 0
SatisfiesQuestion values question = AllByRecursion (λ l. makes_true values l ≡ true) question

-- some literal of the clause is true
abbrev pub satisfies_clause : List Bool → List Lit → Bool
satisfies_clause values clause = list_any (makes_true values) clause

-- The clause follows: every assignment that satisfies the problem makes one of its literals true.
abbrev pub Follows : Problem → List Lit → Type 0
Follows problem clause = (values : List Bool) → Satisfies values problem → satisfies_clause values clause ≡ true
