use Rattle.std.proofs.Common.{◌≡◌, ◌<◌, ◌∙◌, length, get_or, true, sym, arith}
use Rattle.std.specs.Arc.{arc_value}
use Rattle.count_core.specs.Assignments.{under_sign}
use Rattle.propagation.specs.Occurrences.{items_at, no_occurrence}
use Rattle.propagation.proofs.Splits.{clause_from}
use Rattle.propagation.proofs.Stores.{items_read, clause_unaffected}
use Rattle.propagation.proofs.store.Store.affected_clause.Goals as goal

pub returns-then-under_sign-clause-none : goal.returns-then-under_sign-clause-none
returns-then-under_sign-clause-none c =
    let low : c.args.lit.atom.0 < length c.self.inside.lists.items = omega (arith, rw (← c.self.view_is) at c.requires.atom, c.self.invariant.listed.atoms_number) in
    let read : c.as_slice.result.now ≡ items_at c.self.inside.lists.items c.args.lit.atom.0 = items_read c.self.inside.lists.items c.args.lit.atom.0 c.index.result.now c.as_slice.result.now c.as_slice.ensures c.index.ensures low in
    let place = rw (← c.self.view_is) at c.requires.place in
    let first = rw (← c.self.view_is) at c.requires.clause in
    let past = clause_from (length (arc_value c.self.inside.problem).rules) c.self.inside.splits.items c.self.inside.lists.items c.self.invariant.split c.args.lit.atom.0 c.args.place first place in
    let sign : under_sign (get_or c.as_slice.result.now c.args.place no_occurrence).positive c.args.lit.positive ≡ true = sym c.under_sign.ensures ∙ c.if-under_sign.true in
    rw (← c.self.view_is) (clause_unaffected (arc_value c.self.inside.problem) c.self.inside.clauses.items c.self.inside.lists.items c.args.lit c.args.place c.self.invariant.shaped c.self.invariant.listed place past (rw read at sign))

pub returns-then-under_sign-clause-clause : goal.returns-then-under_sign-clause-clause
returns-then-under_sign-clause-clause c =
    let place = rw (← c.self.view_is) at c.requires.place in
    let first = rw (← c.self.view_is) at c.requires.clause in
    rw (← c.self.view_is) (clause_from (length (arc_value c.self.inside.problem).rules) c.self.inside.splits.items c.self.inside.lists.items c.self.invariant.split c.args.lit.atom.0 c.args.place first place)

pub returns-clause-clause : goal.returns-clause-clause
returns-clause-clause c =
    let place = rw (← c.self.view_is) at c.requires.place in
    let first = rw (← c.self.view_is) at c.requires.clause in
    rw (← c.self.view_is) (clause_from (length (arc_value c.self.inside.problem).rules) c.self.inside.splits.items c.self.inside.lists.items c.self.invariant.split c.args.lit.atom.0 c.args.place first place)
