use Rattle.propagation.specs.Engines.{OnlyTrailDiffers}
use Rattle.propagation.proofs.tests.come_out.Given as goal

abbrev pub invariant-loop-case : goal.invariant-loop-case
invariant-loop-case l = OnlyTrailDiffers l.fn.engine l.engine
