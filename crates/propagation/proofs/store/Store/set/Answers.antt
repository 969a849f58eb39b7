use Rattle.std.proofs.Common.{◌≡◌, length, not, ◌∙◌, ap, arith}
use Rattle.std.specs.Arc.{arc_value}
use Rattle.propagation.specs.Occurrences.{items_at, IsRaised}
use Rattle.propagation.proofs.Basics.{returned}
use Rattle.propagation.proofs.Stores.{free_listed, items_read, below_trues, below_falses, store_set}
use Rattle.propagation.proofs.store.Store.set.Goals as goal

pub index-requires : goal.index-requires
index-requires c =
    let free = rw (← c.self.view_is) at c.requires.free in
    omega (arith, free_listed (arc_value c.self.inside.problem) c.self.inside.clauses.items c.self.inside.trail.entries c.self.inside.lists.items c.args.lit c.self.invariant.listed free, c.self.inside.lists.ok.0)

pub count_in-requires-clause-within_trues : goal.count_in-requires-clause-within_trues
count_in-requires-clause-within_trues c =
    let free = rw (← c.self.view_is) at c.requires.free in
    let read = items_read c.self.inside.lists.items c.args.lit.atom.0 c.index.result.now c.as_slice.result.now c.as_slice.ensures c.index.ensures (free_listed (arc_value c.self.inside.problem) c.self.inside.clauses.items c.self.inside.trail.entries c.self.inside.lists.items c.args.lit c.self.invariant.listed free) in
    rw read (below_trues _ _ _ _ _ _ _ _ c.self.invariant c.args.lit.atom.0 (length c.deref_mut.result.now) (ap length c.deref_mut.ensures.value))

pub count_in-requires-clause-within_falses : goal.count_in-requires-clause-within_falses
count_in-requires-clause-within_falses c =
    let free = rw (← c.self.view_is) at c.requires.free in
    let read = items_read c.self.inside.lists.items c.args.lit.atom.0 c.index.result.now c.as_slice.result.now c.as_slice.ensures c.index.ensures (free_listed (arc_value c.self.inside.problem) c.self.inside.clauses.items c.self.inside.trail.entries c.self.inside.lists.items c.args.lit c.self.invariant.listed free) in
    rw read (below_falses _ _ _ _ _ _ _ _ c.self.invariant c.args.lit.atom.0 (length c.deref_mut-2.result.now) (ap length c.deref_mut-2.ensures.value))

pub invariant_of-self : goal.invariant_of-self
invariant_of-self c =
    let free = rw (← c.self.view_is) at c.requires.free in
    let caused = rw (← c.self.view_is) at c.requires.caused in
    let read : c.as_slice.result.now ≡ items_at c.self.inside.lists.items c.args.lit.atom.0 = items_read c.self.inside.lists.items c.args.lit.atom.0 c.index.result.now c.as_slice.result.now c.as_slice.ensures c.index.ensures (free_listed (arc_value c.self.inside.problem) c.self.inside.clauses.items c.self.inside.trail.entries c.self.inside.lists.items c.args.lit c.self.invariant.listed free) in
    let lt : length c.count_in.new.trues ≡ length c.self.inside.trues.items = c.count_in.auto.trues ∙ ap length c.deref_mut.ensures.value in
    let lf : length c.count_in.new.falses ≡ length c.self.inside.falses.items = c.count_in.auto.falses ∙ ap length c.deref_mut-2.ensures.value in
    let nt : c.self.inside.trues.len ≡ length c.self.inside.trues.items = omega (arith, c.self.inside.trues.ok.0) in
    let nf : c.self.inside.falses.len ≡ length c.self.inside.falses.items = omega (arith, c.self.inside.falses.ok.0) in
    let up : IsRaised c.self.inside.trues.items c.count_in.new.trues c.args.lit.positive (items_at c.self.inside.lists.items c.args.lit.atom.0) = rw (read, c.deref_mut.ensures.value) at c.count_in.ensures.trues in
    let down : IsRaised c.self.inside.falses.items c.count_in.new.falses (not c.args.lit.positive) (items_at c.self.inside.lists.items c.args.lit.atom.0) = rw (read, c.deref_mut-2.ensures.value) at c.count_in.ensures.falses in
    rw (returned c.self.inside.trues.items c.count_in.new.trues c.self.inside.trues.len nt lt, returned c.self.inside.falses.items c.count_in.new.falses c.self.inside.falses.len nf lf)
    (store_set _ _ _ _ _ _ _ _ c.self.invariant (record { lit = c.args.lit; cause = c.args.cause }) c.set.new.self.atoms c.set.new.self.entries c.count_in.new.trues c.count_in.new.falses free caused c.set.ensures.atoms c.set.ensures.entries up down lt lf)
