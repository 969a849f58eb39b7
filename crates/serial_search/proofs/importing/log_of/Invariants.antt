use Rattle.std.proofs.Common.{◌≡◌, take}
use Rattle.std.specs.Arc.{arc_value}
use Rattle.serial_search.proofs.importing.log_of.Given as goal

abbrev pub invariant-loop-step : goal.invariant-loop-step
invariant-loop-step l = record {
  problem : l.log.problem ≡ arc_value l.fn.problem;
  steps : l.log.steps ≡ take l.step-index l.steps;
}
