use Rattle.std.proofs.Common.{◌≡◌, ◌∙◌, sym, subst, arith}
use Rattle.count_core.specs.Assignments.{Follows}
use Rattle.propagation.specs.Engines.{OnlyTrailDiffers}
use Rattle.serial_search.specs.Sides.{AreLinked, IsContinued}
use Rattle.serial_search.proofs.Links.{gained_continued, gained_follows, gained_linked, linked_on, conflict_on}
use Rattle.serial_search.proofs.learning.learn.Goals as goal

pub add_clause-requires-clause-follows : goal.add_clause-requires-clause-follows
add_clause-requires-clause-follows c =
    let gained = rw c.in-Some.is at c.in_ok-number.ensures.added in
    let follows = gained_follows c.args.log.now c.add_leading.new.self _ _ gained c.steps-steps.ensures.accepted in
    subst (λ p. Follows p c.as_slice-lits.result.now) (c.in_ok-number.ensures.problem ∙ sym c.requires.linked.problem) follows

pub returns-in_err-add_clause-clause-linked : goal.returns-in_err-add_clause-clause-linked
returns-in_err-add_clause-clause-linked c =
    let gained = rw c.in-Some.is at c.in_ok-number.ensures.added in
    let continued = gained_continued c.args.log.now c.add_leading.new.self _ _ gained c.in_ok-number.ensures.problem in
    let kept : OnlyTrailDiffers c.args.engine.now c.add_clause.new.self = record { problem = c.add_clause.ensures.problem; clauses = c.in_err-add_clause.ensures.err; room = (let same = c.add_clause.ensures.room in omega arith) } in
    linked_on c.args.log.now c.add_leading.new.self c.args.engine.now c.add_clause.new.self c.requires.linked continued kept

pub returns-clause-linked : goal.returns-clause-linked
returns-clause-linked c =
    let gained = rw c.in-Some.is at c.in_ok-number.ensures.added in
    let number = rw c.in-Some.is at c.in_ok-number.ensures.number in
    gained_linked c.args.log.now c.add_leading.new.self c.args.engine.now c.add_clause.new.self _ _ c.in-Some.number c.requires.linked gained c.in_ok-number.ensures.problem number c.add_clause.ensures.problem c.in_ok-add_clause.ensures.ok c.add_clause.ensures.room

pub returns-clause-conflict : goal.returns-clause-conflict
returns-clause-conflict c = conflict_on c.args.engine.now c.add_clause.new.self _ _ c.args.conflict c.add_clause.ensures.problem c.add_clause.ensures.entries c.in_ok-add_clause.ensures.ok c.requires.conflict
