use Rattle.std.proofs.Common.{arith}
use Rattle.propagation.proofs.Trails.{trail_few}
use Rattle.propagation.proofs.trail.Trail.len.Goals as goal

pub returns-clause-few : goal.returns-clause-few
returns-clause-few c = rw (← c.self.view_is) (trail_few _ _ _ _ c.self.invariant)

pub returns-clause-small : goal.returns-clause-small
returns-clause-small c = rw (← c.self.view_is) (omega (arith, trail_few _ _ _ _ c.self.invariant, c.self.invariant.small))
