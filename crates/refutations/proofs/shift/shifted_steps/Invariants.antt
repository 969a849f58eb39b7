use Rattle.std.proofs.Common.{◌≡◌, ◌++◌, drop, map}
use Rattle.refutations.specs.Shifts.{shifted_step}
use Rattle.refutations.proofs.shift.shifted_steps.Given as goal

-- the copies, and then those left
abbrev pub invariant-loop-step : goal.invariant-loop-step
invariant-loop-step l = l.copies.items ++ map (shifted_step l.shift) (drop l.step-index l.steps) ≡ map (shifted_step l.shift) l.steps
