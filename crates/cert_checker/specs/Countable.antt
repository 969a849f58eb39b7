-- Lists of steps that a u32 numbers.
use Rattle.std.specs.Prelude.{◌<◌, List, length}
use Rattle.std.specs.List.{AllByRecursion}
use Rattle.count_core.specs.declared.step.Step.{Step}
use Rattle.count_core.specs.Limits.{number_limit}

-- A u32 numbers the hints of the step.
abbrev pub HasCountableHints : Step → Type 0
HasCountableHints s = length s.hints < number_limit

-- A u32 numbers the steps, and the hints of each.
pub record AreCountable (steps : List Step) : Type 0 where
  pub few : length steps < number_limit
  pub hints : AllByRecursion HasCountableHints steps
