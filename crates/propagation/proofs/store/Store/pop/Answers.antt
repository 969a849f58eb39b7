use Rattle.std.proofs.Common.{◌≡◌, length, not, ◌∙◌, ap, arith}
use Rattle.std.specs.Arc.{arc_value}
use Rattle.propagation.specs.Occurrences.{items_at, IsRaised}
use Rattle.propagation.proofs.Basics.{returned}
use Rattle.propagation.proofs.Stores.{pop_listed, items_read, below_trues, below_falses, fall_trues, fall_falses, store_pop}
use Rattle.propagation.proofs.store.Store.pop.Goals as goal

pub index-requires : goal.index-requires
index-requires c =
    let listed = pop_listed (arc_value c.self.inside.problem) c.self.inside.clauses.items c.self.inside.trail.atoms c.pop-lit.new.self.entries c.self.inside.trail.entries c.pop-lit.ensures.last.0 c.self.inside.trues.items c.self.inside.falses.items c.self.inside.lists.items c.self.inside.splits.items c.self.invariant c.pop-lit.ensures.last.1 c.pop-lit.result c.pop-lit.ensures.last.2 in
    omega (arith, listed, c.self.inside.lists.ok.0)

pub count_out-requires-clause-within_trues : goal.count_out-requires-clause-within_trues
count_out-requires-clause-within_trues c =
    let listed = pop_listed (arc_value c.self.inside.problem) c.self.inside.clauses.items c.self.inside.trail.atoms c.pop-lit.new.self.entries c.self.inside.trail.entries c.pop-lit.ensures.last.0 c.self.inside.trues.items c.self.inside.falses.items c.self.inside.lists.items c.self.inside.splits.items c.self.invariant c.pop-lit.ensures.last.1 c.pop-lit.result c.pop-lit.ensures.last.2 in
    let read = items_read c.self.inside.lists.items c.pop-lit.result.atom.0 c.index.result.now c.as_slice.result.now c.as_slice.ensures c.index.ensures listed in
    rw read (below_trues _ _ _ _ _ _ _ _ c.self.invariant c.pop-lit.result.atom.0 (length c.deref_mut.result.now) (ap length c.deref_mut.ensures.value))

pub count_out-requires-clause-within_falses : goal.count_out-requires-clause-within_falses
count_out-requires-clause-within_falses c =
    let listed = pop_listed (arc_value c.self.inside.problem) c.self.inside.clauses.items c.self.inside.trail.atoms c.pop-lit.new.self.entries c.self.inside.trail.entries c.pop-lit.ensures.last.0 c.self.inside.trues.items c.self.inside.falses.items c.self.inside.lists.items c.self.inside.splits.items c.self.invariant c.pop-lit.ensures.last.1 c.pop-lit.result c.pop-lit.ensures.last.2 in
    let read = items_read c.self.inside.lists.items c.pop-lit.result.atom.0 c.index.result.now c.as_slice.result.now c.as_slice.ensures c.index.ensures listed in
    rw read (below_falses _ _ _ _ _ _ _ _ c.self.invariant c.pop-lit.result.atom.0 (length c.deref_mut-2.result.now) (ap length c.deref_mut-2.ensures.value))

pub count_out-requires-clause-some_trues : goal.count_out-requires-clause-some_trues
count_out-requires-clause-some_trues c =
    let lit = c.pop-lit.ensures.last.2 in
    let listed = pop_listed (arc_value c.self.inside.problem) c.self.inside.clauses.items c.self.inside.trail.atoms c.pop-lit.new.self.entries c.self.inside.trail.entries c.pop-lit.ensures.last.0 c.self.inside.trues.items c.self.inside.falses.items c.self.inside.lists.items c.self.inside.splits.items c.self.invariant c.pop-lit.ensures.last.1 c.pop-lit.result lit in
    let read = items_read c.self.inside.lists.items c.pop-lit.result.atom.0 c.index.result.now c.as_slice.result.now c.as_slice.ensures c.index.ensures listed in
    let fall = rw lit at (fall_trues (arc_value c.self.inside.problem) c.self.inside.clauses.items c.self.inside.trail.atoms c.pop-lit.new.self.entries c.self.inside.trail.entries c.pop-lit.ensures.last.0 c.self.inside.trues.items c.self.inside.falses.items c.self.inside.lists.items c.self.inside.splits.items c.self.invariant c.pop-lit.ensures.last.1) in
    rw (read, c.deref_mut.ensures.value) fall

pub count_out-requires-clause-some_falses : goal.count_out-requires-clause-some_falses
count_out-requires-clause-some_falses c =
    let lit = c.pop-lit.ensures.last.2 in
    let listed = pop_listed (arc_value c.self.inside.problem) c.self.inside.clauses.items c.self.inside.trail.atoms c.pop-lit.new.self.entries c.self.inside.trail.entries c.pop-lit.ensures.last.0 c.self.inside.trues.items c.self.inside.falses.items c.self.inside.lists.items c.self.inside.splits.items c.self.invariant c.pop-lit.ensures.last.1 c.pop-lit.result lit in
    let read = items_read c.self.inside.lists.items c.pop-lit.result.atom.0 c.index.result.now c.as_slice.result.now c.as_slice.ensures c.index.ensures listed in
    let fall = rw lit at (fall_falses (arc_value c.self.inside.problem) c.self.inside.clauses.items c.self.inside.trail.atoms c.pop-lit.new.self.entries c.self.inside.trail.entries c.pop-lit.ensures.last.0 c.self.inside.trues.items c.self.inside.falses.items c.self.inside.lists.items c.self.inside.splits.items c.self.invariant c.pop-lit.ensures.last.1) in
    rw (read, c.deref_mut-2.ensures.value) fall

pub invariant_of-self : goal.invariant_of-self
invariant_of-self c =
    let e = c.pop-lit.ensures.last.0 in
    let lit = c.pop-lit.ensures.last.2 in
    let listed = pop_listed (arc_value c.self.inside.problem) c.self.inside.clauses.items c.self.inside.trail.atoms c.pop-lit.new.self.entries c.self.inside.trail.entries c.pop-lit.ensures.last.0 c.self.inside.trues.items c.self.inside.falses.items c.self.inside.lists.items c.self.inside.splits.items c.self.invariant c.pop-lit.ensures.last.1 c.pop-lit.result lit in
    let read : c.as_slice.result.now ≡ items_at c.self.inside.lists.items c.pop-lit.result.atom.0 = items_read c.self.inside.lists.items c.pop-lit.result.atom.0 c.index.result.now c.as_slice.result.now c.as_slice.ensures c.index.ensures listed in
    let lt : length c.count_out.new.trues ≡ length c.self.inside.trues.items = c.count_out.auto.trues ∙ ap length c.deref_mut.ensures.value in
    let lf : length c.count_out.new.falses ≡ length c.self.inside.falses.items = c.count_out.auto.falses ∙ ap length c.deref_mut-2.ensures.value in
    let nt : c.self.inside.trues.len ≡ length c.self.inside.trues.items = omega (arith, c.self.inside.trues.ok.0) in
    let nf : c.self.inside.falses.len ≡ length c.self.inside.falses.items = omega (arith, c.self.inside.falses.ok.0) in
    let up : IsRaised c.count_out.new.trues c.self.inside.trues.items c.pop-lit.ensures.last.0.lit.positive (items_at c.self.inside.lists.items c.pop-lit.ensures.last.0.lit.atom.0) = rw lit (rw (read, c.deref_mut.ensures.value) at c.count_out.ensures.trues) in
    let down : IsRaised c.count_out.new.falses c.self.inside.falses.items (not c.pop-lit.ensures.last.0.lit.positive) (items_at c.self.inside.lists.items c.pop-lit.ensures.last.0.lit.atom.0) = rw lit (rw (read, c.deref_mut-2.ensures.value) at c.count_out.ensures.falses) in
    rw (returned c.self.inside.trues.items c.count_out.new.trues c.self.inside.trues.len nt lt, returned c.self.inside.falses.items c.count_out.new.falses c.self.inside.falses.len nf lf)
    (store_pop (arc_value c.self.inside.problem) c.self.inside.clauses.items c.self.inside.trail.atoms c.pop-lit.new.self.entries c.self.inside.trail.entries c.pop-lit.ensures.last.0 c.self.inside.trues.items c.self.inside.falses.items c.self.inside.lists.items c.self.inside.splits.items c.self.invariant c.pop-lit.ensures.last.1 c.pop-lit.new.self.atoms c.count_out.new.trues c.count_out.new.falses c.pop-lit.ensures.atoms up down lt lf)
