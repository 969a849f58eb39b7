use Rattle.std.proofs.Common.{rules, ◌≡◌, length, ◌∙◌, ap}
use Rattle.std.specs.Arc.{arc_value}
use Rattle.std.specs.Prelude.{replicate}
use Rattle.count_core.specs.Problems.{IsWellFormed}
use Rattle.propagation.proofs.Clauses.{store_new}
use Rattle.propagation.proofs.store.Store.new.Goals as goal

pub invariant_of-result : goal.invariant_of-result
invariant_of-result c =
    let number : length c.rules-number.result.now ≡ length (arc_value c.args.problem).rules = rw c.deref.ensures at (ap length c.rules-number.ensures.rules) in
    let formed : IsWellFormed (arc_value c.args.problem) = rw c.deref.ensures at c.rules-number.ensures.formed in
    let listed = rw c.deref-2.ensures at c.in_ok-lists.ensures.listed in
    let short = rw c.deref-2.ensures at c.in_ok-lists.ensures.short in
    let lengths = rw c.deref-3.ensures.value at c.in_ok-splits.ensures in
    let trues : c.in_ok-trues.trues.items ≡ replicate (length c.rules-number.result.now) 0 = search rules in
    let falses : c.in_ok-falses.falses.items ≡ replicate (length c.rules-number.result.now) 0 = search rules in
    let atoms : c.in_ok-trail.trail.atoms ≡ (arc_value c.args.problem).atoms = c.in_ok-trail.ensures.atoms ∙ rw c.deref-4.ensures at c.atoms.ensures.atoms in
    store_new (arc_value c.args.problem) c.in_ok-trail.trail.atoms (length c.rules-number.result.now) c.new-2.result.items c.in_ok-trail.trail.entries c.in_ok-trues.trues.items c.in_ok-falses.falses.items c.in_ok-lists.lists.items c.in_ok-splits.splits.items c.new-2.ensures.items c.in_ok-trail.ensures.entries atoms number trues falses formed listed short lengths
