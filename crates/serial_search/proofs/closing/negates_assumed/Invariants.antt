use Rattle.std.proofs.Common.{drop}
use Rattle.count_core.specs.Steps.{NegatesOnly}
use Rattle.serial_search.specs.Assumptions.{assumed_of}
use Rattle.serial_search.proofs.closing.negates_assumed.Given as goal

abbrev pub invariant-loop-lit : goal.invariant-loop-lit
invariant-loop-lit l = NegatesOnly (assumed_of l.engine.entries) (drop l.lit-index l.clause) → NegatesOnly (assumed_of l.engine.entries) l.clause
