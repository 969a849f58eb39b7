use Rattle.std.proofs.Common.{◌≡◌, [], None, rules, arith}
use Rattle.std.specs.Prelude.{replicate}
use Rattle.count_core.proofs.Trails.{trail_clear}
use Rattle.cert_checker.proofs.assignment.Assignment.new.Goals as goal

pub invariant_of-result : goal.invariant_of-result
invariant_of-result c =
    let values : c.in_ok-values.values.items ≡ replicate c.args.atoms None = search rules in
    let empty : c.in_ok-trail.trail.items ≡ [] = search rules in
    rw (values, empty) (trail_clear c.args.atoms _ (omega (arith, c.in_ok-trail.ensures.capacity)))
