use Rattle.std.proofs.Common.{sym, ◌∙◌, arith}
use Rattle.count_core.proofs.Trails.{trail_room, trail_set, free_within, free_unset, free_assign}
use Rattle.cert_checker.proofs.assignment.Assignment.assign.Goals as goal

pub push_reserved-requires : goal.push_reserved-requires
push_reserved-requires c =
    let free = rw (c.as_slice.ensures.value) at (sym c.is_free.ensures ∙ c.if-not-is_free.false) in
    omega (arith, trail_room c.self.inside.values.items c.self.inside.trail.items _ c.self.invariant c.args.lit.atom.0 (free_within c.self.inside.values.items c.args.lit free) (free_unset c.self.inside.values.items c.args.lit free), c.self.inside.trail.ok.0)

pub invariant_of-self : goal.invariant_of-self
invariant_of-self c =
    let free = rw (c.as_slice.ensures.value) at (sym c.is_free.ensures ∙ c.if-not-is_free.false) in
    rw (c.push_reserved.ensures.items, c.push_reserved.ensures.capacity) (trail_set c.self.inside.values.items c.self.inside.trail.items _ c.self.invariant c.args.lit.atom.0 (free_within c.self.inside.values.items c.args.lit free) (free_unset c.self.inside.values.items c.args.lit free) _ c.atom_value.result (omega arith))

pub returns-clause-values : goal.returns-clause-values
returns-clause-values c =
    let free = rw (c.as_slice.ensures.value) at (sym c.is_free.ensures ∙ c.if-not-is_free.false) in
    rw (← c.self.view_is, c.atom_value.ensures) (free_assign c.self.inside.values.items c.args.lit free c.args.truth)
