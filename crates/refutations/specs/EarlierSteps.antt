-- What hints name, and places by number, as this crate's private parts have them.
use Rattle.std.specs.Prelude.{◌≡◌, ℕ, ◌<◌, List, length, map, Some, slice_get, slice_index, Bool}
use Rattle.std.specs.List.{AllByRecursion}
use Rattle.count_core.specs.declared.hint.Hint.{Hint}
use Rattle.count_core.specs.declared.hint.Hint.TheVariants.{Rule, Step as Earlier}
use Rattle.count_core.specs.declared.step.Step.{Step}
use Rattle.refutations.specs.Cones.{number_below}

-- The hint is to a rule, or to a step below the number.
abbrev pub IsBelow : ℕ → Hint → Type 0
IsBelow n (Rule m) = Unit {0}
IsBelow n (Earlier m) = m < n

-- Each hint of each step is to a rule or to an earlier step.
abbrev pub AreEarlier : List Step → Type 0
AreEarlier steps = (n : ℕ) (s : Step) → slice_get steps n ≡ Some s → AllByRecursion (IsBelow n) s.hints

-- a hint to step n becomes one to the n-th place
abbrev pub by_place : List ℕ → Hint → Hint
by_place places (Rule n) = Rule n
by_place places (Earlier n) = Earlier (slice_index places n)

abbrev pub by_places : List ℕ → Step → Step
by_places places s = record { clause = s.clause; hints = map (by_place places) s.hints }

-- Each number below the set's length has the place that it has in the set.
pub record ArePlaces (set : List Bool) (places : List ℕ) : Type 0 where
  pub all : length places ≡ length set
  pub each : (n : ℕ) → n < length set → slice_index places n ≡ number_below set n
