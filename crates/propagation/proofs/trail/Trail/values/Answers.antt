use Rattle.propagation.proofs.Trails.{trail_sets}
use Rattle.propagation.proofs.trail.Trail.values.Goals as goal

pub returns-clause-number : goal.returns-clause-number
returns-clause-number c = rw (← c.self.view_is) (trail_sets _ _ _ _ c.self.invariant)
