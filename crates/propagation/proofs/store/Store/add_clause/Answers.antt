use Rattle.std.proofs.Common.{rules, ◌≡◌, ◌<◌, ◌++◌, ◌∷◌, [], length, ◌∙◌, ap, arith}
use Rattle.std.specs.Arc.{arc_value}
use Rattle.propagation.specs.declared.clause.Clause.{Clause}
use Rattle.propagation.proofs.Basics.{returned}
use Rattle.propagation.proofs.Clauses.{store_room, store_add}
use Rattle.propagation.proofs.store.Store.add_clause.Goals as goal

pub invariant_of-self-in_err-reserve_for : goal.invariant_of-self-in_err-reserve_for
invariant_of-self-in_err-reserve_for c =
    let value : c.deref_mut.result.now ≡ c.self.inside.lists.items = c.deref_mut.ensures.value in
    let number : c.self.inside.lists.len ≡ length c.self.inside.lists.items = omega (arith, c.self.inside.lists.ok.0) in
    let len : length c.reserve_for.new.lists ≡ length c.self.inside.lists.items = c.reserve_for.auto.lists ∙ ap length value in
    let same = rw value at c.reserve_for.ensures.items in
    rw (returned c.self.inside.lists.items c.reserve_for.new.lists c.self.inside.lists.len number len) (store_room (arc_value c.self.inside.problem) c.self.inside.clauses.items c.self.inside.trail.atoms c.self.inside.trail.entries c.self.inside.trues.items c.self.inside.falses.items c.self.inside.lists.items c.self.inside.splits.items c.self.invariant c.reserve.new.self.items c.reserve-2.new.self.items c.reserve-3.new.self.items c.reserve_for.new.lists c.reserve.ensures.items c.reserve-2.ensures.items c.reserve-3.ensures.items same len)

pub invariant_of-self-2 : goal.invariant_of-self-2
invariant_of-self-2 c =
    let value : c.deref_mut.result.now ≡ c.self.inside.lists.items = c.deref_mut.ensures.value in
    let number : c.self.inside.lists.len ≡ length c.self.inside.lists.items = omega (arith, c.self.inside.lists.ok.0) in
    let len : length c.reserve_for.new.lists ≡ length c.self.inside.lists.items = c.reserve_for.auto.lists ∙ ap length value in
    let same = rw value at c.reserve_for.ensures.items in
    let back = returned c.self.inside.lists.items c.reserve_for.new.lists c.self.inside.lists.len number len in
    let value2 : c.deref_mut-2.result.now ≡ c.reserve_for.new.lists = c.deref_mut-2.ensures.value ∙ back in
    let len2 : length c.enter.new.lists ≡ length c.reserve_for.new.lists = c.enter.auto.lists ∙ ap length value2 in
    let number2 : c.self.inside.lists.len ≡ length c.reserve_for.new.lists = omega arith in
    let clause : Clause = record { lits = c.args.clause.now; step = c.args.step } in
    let lits = c.in_ok-lits.ensures in
    let cs : c.push.new.self.items ≡ c.self.inside.clauses.items ++ record { lits = c.args.clause.now; step = c.args.step } ∷ [] = rw (c.unwrap.ensures, c.reserve.ensures.items, lits) at c.push.ensures.items in
    let us : c.push-2.new.self.items ≡ c.self.inside.trues.items ++ c.counts_of-trues.result.trues ∷ [] = rw (c.unwrap-2.ensures, c.reserve-2.ensures.items) at c.push-2.ensures.items in
    let gs : c.push-3.new.self.items ≡ c.self.inside.falses.items ++ c.counts_of-trues.result.falses ∷ [] = rw (c.unwrap-3.ensures, c.reserve-3.ensures.items) at c.push-3.ensures.items in
    let number3 : c.in-Ok.number ≡ length c.self.inside.trues.items = search rules in
    let few : length c.args.clause.now < 9223372036854775808 = omega arith in
    let within = rw (← c.self.view_is) at c.requires.within in
    let ts = rw c.values.ensures.values at c.counts_of-trues.ensures.trues in
    let fs = rw c.values.ensures.values at c.counts_of-trues.ensures.falses in
    rw (back, returned c.reserve_for.new.lists c.enter.new.lists c.self.inside.lists.len number2 len2)
    (store_add (arc_value c.self.inside.problem) c.self.inside.clauses.items c.self.inside.trail.atoms c.self.inside.trail.entries c.self.inside.trues.items c.self.inside.falses.items c.self.inside.lists.items c.self.inside.splits.items c.self.invariant
    clause c.counts_of-trues.result.trues c.counts_of-trues.result.falses c.in-Ok.number c.push.new.self.items c.push-2.new.self.items c.push-3.new.self.items c.reserve_for.new.lists c.enter.new.lists
    within c.requires.distinct few number3 ts fs cs us gs same len (len2 ∙ len) (rw value2 at c.enter.ensures))
