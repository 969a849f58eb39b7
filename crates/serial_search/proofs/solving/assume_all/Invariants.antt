use Rattle.std.proofs.Common.{◌≡◌, ◌++◌, drop, false}
use Rattle.std.specs.List.{AllByRecursion}
use Rattle.count_core.specs.Problems.{repeats}
use Rattle.propagation.specs.Trails.{IsFree}
use Rattle.propagation.specs.Engines.{OnlyTrailDiffers, values_in}
use Rattle.serial_search.specs.Assumptions.{assumed_of}
use Rattle.serial_search.proofs.solving.assume_all.Given as goal

-- those left are over different atoms, each of which is unset
abbrev pub invariant-loop-lit : goal.invariant-loop-lit
invariant-loop-lit l = record {
  free : AllByRecursion (IsFree (values_in l.engine)) (drop l.lit-index l.lits);
  distinct : repeats (drop l.lit-index l.lits) ≡ false;
  assumed : assumed_of l.engine.entries ++ drop l.lit-index l.lits ≡ l.lits;
  kept : OnlyTrailDiffers l.fn.engine l.engine;
}
