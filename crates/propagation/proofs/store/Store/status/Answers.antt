use Rattle.std.proofs.Common.{◌≡◌}
use Rattle.std.specs.Arc.{arc_value}
use Rattle.propagation.specs.Constraints.{constraint_at}
use Rattle.propagation.specs.Trails.{values_of}
use Rattle.propagation.specs.Views.{rule_in}
use Rattle.propagation.proofs.Statuses.{status_counted}
use Rattle.propagation.proofs.Stores.{true_count, false_count}
use Rattle.propagation.proofs.store.Store.status.Goals as goal

pub returns : goal.returns
returns c =
    let rule : rule_in c.find-constraint.result ≡ constraint_at (arc_value c.self.inside.problem) c.self.inside.clauses.items c.args.number = rw (c.deref.ensures, c.deref-2.ensures.value) at c.find-constraint.ensures.rule in
    let low = rw (← c.self.view_is) at c.requires in
    let p = values_of (arc_value c.self.inside.problem).atoms c.self.inside.trail.entries in
    let trues = true_count _ _ _ _ _ _ _ _ c.self.invariant c.args.number low c.index.result.now c.index.ensures in
    let falses = false_count _ _ _ _ _ _ _ _ c.self.invariant c.args.number low c.index-2.result.now c.index-2.ensures in
    rw (← c.self.view_is, ← rule) (status_counted p (rule_in c.find-constraint.result) c.index.result.now c.index-2.result.now (rw (← rule) at trues) (rw (← rule) at falses) c.status_of.result c.status_of.ensures)
