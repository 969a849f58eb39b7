use Rattle.std.proofs.Common.{◌≡◌, replicate, None, rules}
use Rattle.count_core.proofs.Trails.{trail_clear}
use Rattle.refutations.proofs.assignment.Assignment.of_atoms.Goals as goal

pub invariant_of-result : goal.invariant_of-result
invariant_of-result c =
    let items : c.in_ok-values.values.items ≡ replicate c.args.atoms None = search rules in
    rw (items, c.in_ok-trail.ensures.items) (trail_clear _ _ c.in_ok-trail.ensures.capacity)
