use Rattle.std.specs.Arc.{arc_value}
use Rattle.propagation.specs.Stores.{no_entry}
use Rattle.propagation.proofs.Stores.{lit_within}
use Rattle.propagation.proofs.store.Store.lit_at.Goals as goal

pub returns-clause-within : goal.returns-clause-within
returns-clause-within c =
    let low = rw (← c.self.view_is) at c.requires in
    rw (← c.self.view_is, c.lits.ensures.lits) (lit_within (arc_value c.self.inside.problem) c.self.inside.clauses.items c.self.inside.trail.entries c.args.place no_entry.lit c.self.invariant.caused low)
