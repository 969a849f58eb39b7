-- The two sides of a split, and the clause that joins them.
use Rattle.std.specs.Prelude.{◌≡◌, ◌≢◌, ◌⊎◌, ◌↔◌, ℕ, List, [], ◌∷◌, ◌++◌, length, false, Contains}
use Rattle.count_core.specs.declared.lit.Lit.{Lit}
use Rattle.count_core.specs.declared.step.Step.{Step}
use Rattle.count_core.specs.Assignments.{negation}
use Rattle.count_core.specs.Problems.{repeats}
use Rattle.refutations.specs.Derivations.{Derivation, clause_at}

-- The first clause holds the negation of the split, the second the split, and no other atom stands in
-- both with opposite signs.
pub record AreSides (split : Lit) (first second : List Lit) : Type 0 where
  pub denies : Contains first (negation split)
  pub asserts : Contains second split
  pub agree : (x y : Lit) → Contains first x → Contains second y → x.atom ≡ y.atom → x.atom ≢ split.atom → x ≡ y

-- The literal is one of either side, and neither the split nor its negation.
abbrev pub IsOfSides : Lit → List Lit → List Lit → Lit → Type 0
IsOfSides split first second x = (Contains first x ⊎ Contains second x) × (x ≢ split) × (x ≢ negation split)

-- The clause has the literals of both sides without the split and its negation, each once.
pub record IsJoined (split : Lit) (first second clause : List Lit) : Type 0 where
  pub literals : (x : Lit) → Contains clause x ↔ IsOfSides split first second x
  pub once : repeats clause ≡ false

-- ---- by the steps of a log

-- The step's clause holds the negation of the split.
abbrev pub Denies : Derivation → ℕ → Lit → Type 0
Denies log n split = Contains (clause_at log.steps n) (negation split)

-- The two steps' clauses are the sides of the split.
abbrev pub AreSideSteps : Derivation → Lit → ℕ → ℕ → Type 0
AreSideSteps log split m n = AreSides split (clause_at log.steps m) (clause_at log.steps n)

-- The clause of the step joins those of the two steps.
abbrev pub JoinsSteps : Derivation → Lit → ℕ → ℕ → List Lit → Type 0
JoinsSteps log split m n clause = IsJoined split (clause_at log.steps m) (clause_at log.steps n) clause

-- The steps are the old ones and some behind them.
abbrev pub AreContinued : List Step → List Step → Type 0
AreContinued old new = (more : List Step) × (new ≡ old ++ more)

-- The steps are the old ones and one behind them, which has the number.
abbrev pub GainsStep : List Step → List Step → ℕ → Type 0
GainsStep old new n = (n ≡ length old) × ((s : Step) × (new ≡ old ++ s ∷ []))
