use Rattle.std.proofs.Common.{◌≡◌, ◌∙◌, length, arith, None}
use Rattle.std.specs.Prelude.{replicate}
use Rattle.count_core.proofs.Trails.{trail_undone}
use Rattle.cert_checker.proofs.assignment.Assignment.clear.Goals as goal

pub invariant_of-self : goal.invariant_of-self
invariant_of-self c =
    let unset : c.unassign_all.new.values ≡ replicate (length c.self.inside.values.items) None = rw (c.as_slice.ensures.value, c.deref_mut.ensures.value) at c.unassign_all.ensures ∙ c.self.invariant.undone in
    rw c.clear.ensures.capacity (trail_undone c.self.inside.values.items c.unassign_all.new.values c.clear.new.self.items _ _ (omega (arith, c.self.inside.values.ok.0)) unset c.clear.ensures.items c.self.invariant.room)
