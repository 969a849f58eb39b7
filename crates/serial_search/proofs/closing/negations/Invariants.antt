use Rattle.std.proofs.Common.{◌≡◌, ◌++◌, drop}
use Rattle.serial_search.specs.Assumptions.{negations_of}
use Rattle.serial_search.proofs.closing.negations.Given as goal

abbrev pub invariant-loop-lit : goal.invariant-loop-lit
invariant-loop-lit l = l.clause.items ++ negations_of (drop l.lit-index l.engine.entries) ≡ negations_of l.engine.entries
