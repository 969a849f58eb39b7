use Rattle.std.proofs.Common.{sym}
use Rattle.propagation.proofs.Trails.{trail_few, lits_with}
use Rattle.propagation.proofs.trail.Trail.lits.Goals as goal

pub returns-clause-lits : goal.returns-clause-lits
returns-clause-lits c = rw (← c.self.view_is, c.as_slice.ensures.value) (sym (lits_with _ _))

pub returns-clause-few : goal.returns-clause-few
returns-clause-few c = rw (← c.self.view_is) (trail_few _ _ _ _ c.self.invariant)
