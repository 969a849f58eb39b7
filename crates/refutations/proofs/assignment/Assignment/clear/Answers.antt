use Rattle.std.proofs.Common.{◌≡◌, ◌≤◌, ◌∙◌, arith, length, replicate, None}
use Rattle.std.specs.Prelude.{vec_capacity}
use Rattle.count_core.proofs.Trails.{trail_undone}
use Rattle.refutations.proofs.assignment.Assignment.clear.Goals as goal

pub invariant_of-self : goal.invariant_of-self
invariant_of-self c =
    let room : length c.self.inside.values.items ≤ vec_capacity c.clear.new.self = omega (arith, c.clear.ensures.capacity, c.self.invariant.room) in
    let unset : c.unassign_all.new.values ≡ replicate (length c.self.inside.values.items) None = rw (c.deref.ensures.value, c.deref_mut.ensures.value) at c.unassign_all.ensures ∙ c.self.invariant.undone in
    trail_undone c.self.inside.values.items c.unassign_all.new.values c.clear.new.self.items _ _ (omega (arith, c.self.inside.values.ok.0)) unset c.clear.ensures.items room
