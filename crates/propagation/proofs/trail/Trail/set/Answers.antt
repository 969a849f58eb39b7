use Rattle.std.proofs.Common.{arith}
use Rattle.propagation.proofs.Trails.{set_within, set_room, set_trail, set_entries, number_with}
use Rattle.propagation.proofs.trail.Trail.set.Goals as goal

pub index_mut-requires-2 : goal.index_mut-requires-2
index_mut-requires-2 c =
    let free = rw (← c.self.view_is) at c.requires.free in
    omega (arith, set_within _ _ _ _ c.self.invariant c.args.lit c.args.cause free, c.self.invariant.causes_number, c.self.inside.causes.ok.0)

pub unwrap-requires : goal.unwrap-requires
unwrap-requires c =
    let free = rw (← c.self.view_is) at c.requires.free in
    let room = rw (← c.self.view_is) at c.requires.room in
    let below = set_room _ _ _ _ c.self.invariant c.args.lit c.args.cause free in
    c.push.ensures.succeeds (omega (arith, below, room, number_with c.self.inside.causes.items c.self.inside.lits.items, c.self.inside.lits.ok.0))

pub invariant_of-self : goal.invariant_of-self
invariant_of-self c =
    let free = rw (← c.self.view_is) at c.requires.free in
    rw (c.push.ensures.items, c.unwrap.ensures) (set_trail _ _ _ _ c.self.invariant c.args.lit c.args.cause free)

pub returns-clause-entries : goal.returns-clause-entries
returns-clause-entries c =
    let free = rw (← c.self.view_is) at c.requires.free in
    rw (c.push.ensures.items, c.unwrap.ensures, ← c.self.view_is) (set_entries _ _ _ _ c.self.invariant c.args.lit c.args.cause free)
