-- What holds of a log's parts.
use Rattle.std.specs.Prelude.{◌≡◌, ◌<◌, List, length, replicate, None}
use Rattle.count_core.specs.Limits.{number_limit}
use Rattle.count_core.specs.declared.step.Step.{Step}
use Rattle.count_core.specs.Problems.{Problem}
use Rattle.count_core.specs.PartialAssignments.{PartialAssignment}
use Rattle.count_core.specs.Steps.{AreAccepted}

-- The steps are accepted, a u32 numbers them, and no atom is set between two steps.
pub record IsLog (problem : Problem) (steps : List Step) (assignment : PartialAssignment) : Type 0 where
  pub accepted : AreAccepted problem steps
  pub few : length steps < number_limit
  pub clear : assignment ≡ replicate (length assignment) None
