use Rattle.propagation.proofs.Engines.{all_follow}
use Rattle.propagation.proofs.engine.Engine.trail.Goals as goal

pub returns-clause-sound : goal.returns-clause-sound
returns-clause-sound c = rw (← c.self.view_is) (record { caused = c.lits.ensures.caused; follow = all_follow c.self.inside.store c.lits.ensures.caused c.self.invariant.follow })
