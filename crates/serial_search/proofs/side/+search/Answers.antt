use Rattle.std.proofs.Common.{◌≡◌, ◌∙◌, ◌++◌, ◌∷◌, [], ap, refl}
use Rattle.std.specs.Prelude.{Contains}
use Rattle.count_core.specs.Assignments.{negation}
use Rattle.refutations.specs.Derivations.{clause_at}
use Rattle.serial_search.specs.Assumptions.{assumed_of}
use Rattle.serial_search.specs.Sides.{IsClosedBy}
use Rattle.serial_search.proofs.Links.{linked_on, differs_same, closed_kept, clause_kept}
use Rattle.serial_search.proofs.Trails.{assumed_entry}
use Rattle.serial_search.proofs.Closings.{closed_same, closed_before, sides_of, second_assumed}
use Rattle.serial_search.proofs.side.+search.Goals as goal

pub returns-then-not-holds-clause-side : goal.returns-then-not-holds-clause-side
returns-then-not-holds-clause-side t c =
    let assumed : assumed_of c.decide-mark.new.engine.entries ≡ assumed_of c.set_what_follows.new.engine.entries ++ c.in-Some.split ∷ [] = ap assumed_of c.decide-mark.ensures.entries ∙ assumed_entry c.set_what_follows.new.engine.entries c.in-Some.split in
    let side = closed_same _ _ (assumed_of c.set_what_follows.new.engine.entries ++ c.in-Some.split ∷ []) _ assumed (rw c.in-Closed.is at c.in_ok-search.ensures.side) in
    let holds = rw c.negation.ensures at c.holds.ensures in
    closed_same _ _ _ _ c.set_what_follows.ensures.assumed (closed_before _ _ c.in-Some.split _ side (λ m. (let yes = holds.1 m in let no = c.if-not-holds.true in cc)))

pub merge-requires-clause-sides : goal.merge-requires-clause-sides
merge-requires-clause-sides t c = λ also.
    let p = c.set_what_follows.new.engine.entries in
    let assumed : assumed_of c.decide-mark.new.engine.entries ≡ assumed_of c.set_what_follows.new.engine.entries ++ c.in-Some.split ∷ [] = ap assumed_of c.decide-mark.ensures.entries ∙ assumed_entry c.set_what_follows.new.engine.entries c.in-Some.split in
    let one = closed_kept c.search.new.log c.search-2.new.log _ _ c.search-2.ensures.continued (closed_same _ _ (assumed_of c.set_what_follows.new.engine.entries ++ c.in-Some.split ∷ []) _ assumed (rw c.in-Closed.is at c.in_ok-search.ensures.side)) in
    let turned = second_assumed p c.search.new.engine.entries c.turn_to.new.engine.entries c.in-Some.split c.decide-mark.result.0 c.decide-mark.ensures.mark (rw c.decide-mark.ensures.entries at c.search.ensures.longer) (rw c.negation-2.ensures at c.turn_to.ensures.entries) in
    let two = closed_same _ _ (assumed_of c.set_what_follows.new.engine.entries ++ negation c.in-Some.split ∷ []) _ turned (rw c.in-Closed-2.is at c.in_ok-search-2.ensures.side) in
    let held : Contains (clause_at c.search.new.log.steps c.in-Closed.step) (negation c.in-Some.split) = rw c.negation.ensures at (c.holds.ensures.0 c.if-not-holds.false) in
    let first = rw c.in-Closed.is at c.in_ok-search.ensures.side in
    let held_later : Contains (clause_at c.search-2.new.log.steps c.in-Closed.step) (negation c.in-Some.split) = rw (clause_kept c.search.new.log c.search-2.new.log c.in-Closed.step c.search-2.ensures.continued first.within) held in
    sides_of (assumed_of p) c.in-Some.split _ _ one.negates two.negates c.set_what_follows.new.engine c.set_what_follows.ensures.sound refl held_later also

pub returns-in_err-merge-clause-linked : goal.returns-in_err-merge-clause-linked
returns-in_err-merge-clause-linked t c = linked_on c.search-2.new.log _ c.search-2.new.engine c.search-2.new.engine c.search-2.ensures.linked c.merge.ensures.continued (differs_same c.search-2.new.engine)

pub returns-clause-linked : goal.returns-clause-linked
returns-clause-linked t c = linked_on c.search-2.new.log _ c.search-2.new.engine c.search-2.new.engine c.search-2.ensures.linked c.merge.ensures.continued (differs_same c.search-2.new.engine)

pub returns-clause-side : goal.returns-clause-side
returns-clause-side t c =
    let p = c.set_what_follows.new.engine.entries in
    let assumed : assumed_of c.decide-mark.new.engine.entries ≡ assumed_of c.set_what_follows.new.engine.entries ++ c.in-Some.split ∷ [] = ap assumed_of c.decide-mark.ensures.entries ∙ assumed_entry c.set_what_follows.new.engine.entries c.in-Some.split in
    let one = closed_kept c.search.new.log c.search-2.new.log _ _ c.search-2.ensures.continued (closed_same _ _ (assumed_of c.set_what_follows.new.engine.entries ++ c.in-Some.split ∷ []) _ assumed (rw c.in-Closed.is at c.in_ok-search.ensures.side)) in
    let turned = second_assumed p c.search.new.engine.entries c.turn_to.new.engine.entries c.in-Some.split c.decide-mark.result.0 c.decide-mark.ensures.mark (rw c.decide-mark.ensures.entries at c.search.ensures.longer) (rw c.negation-2.ensures at c.turn_to.ensures.entries) in
    let two = closed_same _ _ (assumed_of c.set_what_follows.new.engine.entries ++ negation c.in-Some.split ∷ []) _ turned (rw c.in-Closed-2.is at c.in_ok-search-2.ensures.side) in
    closed_same _ _ _ _ c.set_what_follows.ensures.assumed (c.in_ok-merge.ensures.closed (assumed_of p) (record { first_negates = one.negates; second_negates = two.negates }))
