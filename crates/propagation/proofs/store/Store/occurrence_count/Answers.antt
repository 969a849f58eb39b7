use Rattle.std.proofs.Common.{length}
use Rattle.std.specs.Arc.{arc_value}
use Rattle.propagation.proofs.Stores.{unlisted}
use Rattle.propagation.proofs.Splits.{clause_unlisted}
use Rattle.propagation.proofs.store.Store.occurrence_count.Goals as goal

pub returns-clause-others : goal.returns-clause-others
returns-clause-others c = rw (← c.self.view_is) (λ n le e. unlisted _ _ _ c.args.atom.0 n c.self.invariant.listed (clause_unlisted (length (arc_value c.self.inside.problem).rules) c.self.inside.splits.items c.self.inside.lists.items c.self.invariant.split c.args.atom.0 n le e))
