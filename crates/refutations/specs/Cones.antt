-- The steps on which a step rests.
use Rattle.std.specs.Prelude.{◌≡◌, ◌↔◌, ℕ, Bool, true, false, List, [], ◌∷◌, map, take, count_by, slice_get, slice_index_or, Some, ◌==◌, ◌||◌, ◌+◌, length}
use Rattle.std.specs.List.{list_any}
use Rattle.count_core.specs.declared.hint.Hint.{Hint}
use Rattle.count_core.specs.declared.hint.Hint.TheVariants.{Rule, Step as Earlier}
use Rattle.count_core.specs.declared.step.Step.{Step}

-- the hint is to step m
abbrev pub is_to : ℕ → Hint → Bool
is_to m (Rule n) = false
is_to m (Earlier n) = n == m

-- A hint of step n names step m.
abbrev pub Names : List Step → ℕ → ℕ → Type 0
Names steps n m = (s : Step) × (slice_get steps n ≡ Some s) × (list_any (is_to m) s.hints ≡ true)

-- What a step reaches by hints: itself, and each step that a hint of a step names which it reaches.
-- Nothing else.
pub data Reaches (steps : List Step) (from : ℕ) : ℕ → Type 0 where
  itself : Reaches steps from from
  onward : (n m : ℕ) → Reaches steps from n → Names steps n m → Reaches steps from m

-- A set of numbers, as a list that has true at each of them. Past the end there is none.
abbrev pub is_in : List Bool → ℕ → Bool
is_in set n = slice_index_or set n false

-- how many numbers of the set are below n
abbrev pub number_below : List Bool → ℕ → ℕ
number_below set n = count_by (λ b. b) (take n set)

-- A hint to a step is to its place among the steps of the set; a hint to a rule stays.
abbrev pub placed_hint : List Bool → Hint → Hint
placed_hint set (Rule n) = Rule n
placed_hint set (Earlier n) = Earlier (number_below set n)

-- the same clause, by the placed hints
abbrev pub placed_step : List Bool → Step → Step
placed_step set s = record { clause = s.clause; hints = map (placed_hint set) s.hints }

-- the steps whose mark is true, in their order, each with hints to places in the set
abbrev pub sublist : List Bool → List Bool → List Step → List Step
sublist set [] steps = []
sublist set (b ∷ marks) [] = []
sublist set (true ∷ marks) (s ∷ steps) = placed_step set s ∷ sublist set marks steps
sublist set (false ∷ marks) (s ∷ steps) = sublist set marks steps

-- The cone of a step: exactly the steps that it reaches, in their order, renumbered by their places.
-- None of them has a number above its own.
pub record IsCone (steps : List Step) (from : ℕ) (cone : List Step) : Type 0 where
  pub reached : List Bool
  pub up_to : length reached ≡ from + 1
  pub exactly : (n : ℕ) → (is_in reached n ≡ true) ↔ Reaches steps from n
  pub in_order : cone ≡ sublist reached reached steps

-- The marks are the old ones and those of the steps that the hints name.
abbrev pub AddsNamed : List Bool → List Bool → List Hint → Type 0
AddsNamed old new hints = (n : ℕ) → is_in new n ≡ (is_in old n || list_any (is_to n) hints)
