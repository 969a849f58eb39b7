use Rattle.propagation.specs.Engines.{OnlyTrailDiffers}
use Rattle.propagation.proofs.tests.assume_all.Given as goal

abbrev pub invariant-loop-sign : goal.invariant-loop-sign
invariant-loop-sign l = OnlyTrailDiffers l.fn.engine l.engine
