use Rattle.std.proofs.Common.{◌≡◌, take}
use Rattle.count_core.proofs.steps.Steps.from_slice.Given as goal

-- the copies are the first steps
abbrev pub invariant-loop-step : goal.invariant-loop-step
invariant-loop-step l = l.copies.items ≡ take l.step-index l.entries
