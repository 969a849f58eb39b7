use Rattle.std.proofs.Common.{◌∙◌, sym, arith}
use Rattle.count_core.proofs.Trails.{trail_room, trail_set, free_within, free_unset}
use Rattle.refutations.proofs.assignment.Assignment.assign.Goals as goal

pub unwrap-requires : goal.unwrap-requires
unwrap-requires c =
    let free = rw c.deref.ensures.value at (sym c.is_free.ensures ∙ c.if-is_free.true) in
    let room = trail_room c.self.inside.values.items c.self.inside.trail.items _ c.self.invariant c.args.lit.atom.0 (free_within c.self.inside.values.items c.args.lit free) (free_unset c.self.inside.values.items c.args.lit free) in
    c.push.ensures.succeeds (omega (arith, room, c.self.inside.trail.ok.0))

pub invariant_of-self : goal.invariant_of-self
invariant_of-self c =
    let free = rw c.deref.ensures.value at (sym c.is_free.ensures ∙ c.if-is_free.true) in
    rw (c.push.ensures.items, c.unwrap.ensures) (trail_set c.self.inside.values.items c.self.inside.trail.items _ c.self.invariant c.args.lit.atom.0 (free_within c.self.inside.values.items c.args.lit free) (free_unset c.self.inside.values.items c.args.lit free) _ c.value_under.result c.push.ensures.capacity)
