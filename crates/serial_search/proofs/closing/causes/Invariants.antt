use Rattle.std.proofs.Common.{◌≡◌, ◌++◌, drop}
use Rattle.serial_search.specs.Assumptions.{hints_of}
use Rattle.serial_search.proofs.closing.causes.Given as goal

abbrev pub invariant-loop-lit : goal.invariant-loop-lit
invariant-loop-lit l = l.hints.items ++ hints_of (drop l.lit-index l.engine.entries) l.conflict ≡ hints_of l.engine.entries l.conflict
