use Rattle.propagation.proofs.Engines.{engine_same}
use Rattle.propagation.proofs.engine.Engine.reserve.Goals as goal

pub invariant_of-self : goal.invariant_of-self
invariant_of-self c = engine_same c.self.inside.store c.reserve.new.self c.self.inside.progress c.self.inside.quiet_at.items c.self.invariant c.reserve.ensures.kept.problem c.reserve.ensures.kept.clauses c.reserve.ensures.entries
