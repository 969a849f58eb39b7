-- A small problem that no assignment satisfies, and what the definitions say of steps over it: two
-- pots of two teams, two groups, and at most one team in a group. The atom of team i in group k is
-- 2 * i + k.
use Rattle.std.specs.Prelude.{◌≡◌, ℕ, true, false, List, [], ◌∷◌, Option, Some, None}
use Rattle.count_core.specs.declared.lit.Lit.{Lit}
use Rattle.count_core.specs.declared.hint.Hint.{Hint}
use Rattle.count_core.specs.declared.hint.Hint.TheVariants.{Rule, Step as Earlier}
use Rattle.count_core.specs.declared.step.Step.{Step}
use Rattle.count_core.specs.declared.count_rule.CountRule.{CountRule}
use Rattle.count_core.specs.Problems.{Problem}
use Rattle.count_core.specs.Steps.{step_of, failing_hint}

-- the atom, as a literal
abbrev pub yes_of : ℕ → Lit
yes_of a = record { atom = record { 0 = a }; positive = true }

-- the atom's negation
abbrev pub no_of : ℕ → Lit
no_of a = record { atom = record { 0 = a }; positive = false }

-- one of the two atoms
abbrev pub one_of : ℕ → ℕ → CountRule
one_of a b = record { lits = yes_of a ∷ yes_of b ∷ []; lo = 1; hi = 1 }

-- at most one of the four atoms
abbrev pub at_most_one : ℕ → ℕ → ℕ → ℕ → CountRule
at_most_one a b c d = record { lits = yes_of a ∷ yes_of b ∷ yes_of c ∷ yes_of d ∷ []; lo = 0; hi = 1 }

-- each team in one group; in each group one team of each pot; in each group at most one team
abbrev pub clash : Problem
clash = record {
  atoms = 8;
  rules =
      one_of 0 1 ∷ one_of 2 3 ∷ one_of 4 5 ∷ one_of 6 7 ∷
      one_of 0 2 ∷ one_of 4 6 ∷ one_of 1 3 ∷ one_of 5 7 ∷
      at_most_one 0 2 4 6 ∷ at_most_one 1 3 5 7 ∷ [];
}

-- the first team is not in the first group, since else the second pot has no team there
abbrev pub not_0 : Step
not_0 = step_of (no_of 0 ∷ []) (Rule 8 ∷ Rule 5 ∷ [])

-- nor is the second
abbrev pub not_2 : Step
not_2 = step_of (no_of 2 ∷ []) (Rule 8 ∷ Rule 5 ∷ [])

-- so the first pot has no team in the first group: the empty clause
abbrev pub nothing : Step
nothing = step_of [] (Earlier 0 ∷ Earlier 1 ∷ Rule 4 ∷ [])

-- the failing hint of a step for the first team, by its clause and hints
abbrev pub fails_at : List Lit → List Hint → Option ℕ
fails_at clause hints = failing_hint clash [] (step_of clause hints)

-- What the definitions say of steps over it.
pub record ClashTable : Type 0 where
  -- the three steps are accepted one after the other
  pub first : failing_hint clash [] not_0 ≡ None
  pub second : failing_hint clash (not_0 ∷ []) not_2 ≡ None
  pub third : failing_hint clash (not_0 ∷ not_2 ∷ []) nothing ≡ None
  -- rule 4 neither conflicts nor forces at the end
  pub last_idle : fails_at (no_of 0 ∷ []) (Rule 8 ∷ Rule 4 ∷ []) ≡ Some 1
  -- rule 9 forces nothing
  pub idle : fails_at (no_of 0 ∷ []) (Rule 9 ∷ Rule 8 ∷ Rule 5 ∷ []) ≡ Some 0
  -- the only hint forces, and nothing conflicts
  pub last_forces : fails_at (no_of 0 ∷ []) (Rule 8 ∷ []) ≡ Some 1
  -- an atom twice
  pub repeated : fails_at (no_of 0 ∷ no_of 0 ∷ []) (Rule 8 ∷ Rule 5 ∷ []) ≡ Some 0
  -- no hint
  pub no_hint : fails_at (no_of 0 ∷ []) [] ≡ Some 0
  -- rule 5 conflicts before the end
  pub early : fails_at (no_of 0 ∷ []) (Rule 8 ∷ Rule 5 ∷ Rule 4 ∷ []) ≡ Some 1
  -- an atom out of range, an atom with its negation, a rule and a step that are not there
  pub out_of_range : fails_at (no_of 8 ∷ []) (Rule 8 ∷ Rule 5 ∷ []) ≡ Some 0
  pub opposite : fails_at (no_of 0 ∷ yes_of 0 ∷ []) (Rule 8 ∷ Rule 5 ∷ []) ≡ Some 0
  pub no_rule : fails_at (no_of 0 ∷ []) (Rule 10 ∷ Rule 5 ∷ []) ≡ Some 0
  pub no_step : fails_at (no_of 0 ∷ []) (Rule 8 ∷ Earlier 0 ∷ []) ≡ Some 1
