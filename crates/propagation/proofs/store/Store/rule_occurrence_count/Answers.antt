use Rattle.std.proofs.Common.{length}
use Rattle.std.specs.Arc.{arc_value}
use Rattle.propagation.proofs.Stores.{unlisted}
use Rattle.propagation.proofs.Splits.{rule_unlisted}
use Rattle.propagation.proofs.store.Store.rule_occurrence_count.Goals as goal

pub returns-clause-others : goal.returns-clause-others
returns-clause-others c = rw (← c.self.view_is) (λ n lt e. unlisted _ _ _ c.args.atom.0 n c.self.invariant.listed (rule_unlisted (length (arc_value c.self.inside.problem).rules) c.self.inside.splits.items c.self.inside.lists.items c.self.invariant.split c.args.atom.0 n lt e))
