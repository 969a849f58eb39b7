use Rattle.std.proofs.Common.{◌≡◌, take}
use Rattle.serial_search.specs.Sides.{totals}
use Rattle.serial_search.proofs.solving.total.Given as goal

abbrev pub invariant-loop-value : goal.invariant-loop-value
invariant-loop-value l = l.entries.items ≡ totals (take l.value-index l.values)
