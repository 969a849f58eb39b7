use Rattle.propagation.proofs.Engines.{engine_add, engine_same}
use Rattle.propagation.proofs.engine.Engine.add_clause.Goals as goal

pub invariant_of-self : goal.invariant_of-self
invariant_of-self c = engine_same c.self.inside.store c.add_clause.new.self c.self.inside.progress c.self.inside.quiet_at.items c.self.invariant c.add_clause.ensures.problem c.in_err-add_clause.ensures.err c.add_clause.ensures.entries

pub invariant_of-self-2 : goal.invariant_of-self-2
invariant_of-self-2 c =
    let follows = rw (← c.self.view_is) at c.requires.follows in
    engine_add c.self.inside.store c.add_clause.new.self (record { lits = c.args.clause.now; step = c.args.step }) c.self.inside.progress c.self.inside.quiet_at.items c.self.invariant c.add_clause.ensures.problem c.in_ok-add_clause.ensures.ok c.add_clause.ensures.entries follows
