use Rattle.std.proofs.Common.{◌≡◌, ◌+◌, arith}
use Rattle.list_texts.specs.ListTexts.{step_line, FitsStep}
use Rattle.list_texts.proofs.Lists.{is_left, list_alone, no_list_left, later_wrong}
use Rattle.list_texts.proofs.listing.Listing.read.Goals as goal

pub returns-then-not-is_empty-clause-none : goal.returns-then-not-is_empty-clause-none
returns-then-not-is_empty-clause-none c = λ line e.
    no_list_left c.args.text.now c.in-Some.atoms c.in-Ok.rules.items c.in-Ok-steps_at.steps.items c.in-Ok-steps_at.left.now
    (record { behind = c.in-Some.left.now; after = c.in-Ok.left.now; atoms_are = c.in-Some.ensures.text; rules_are = c.in-Ok.ensures.text; items_are = c.in-Ok-steps_at.ensures.text })
    (is_left c.in-Ok-steps_at.left.now c.if-not-is_empty.ensures)

pub returns-then-not-is_empty-clause-first : goal.returns-then-not-is_empty-clause-first
returns-then-not-is_empty-clause-first c = λ line e.
    let same : c.len.result + c.len-then-not-is_empty.result + 2 ≡ line = cc in
    later_wrong step_line FitsStep c.args.text.now c.in-Some.atoms c.in-Ok.rules.items c.in-Ok-steps_at.steps.items c.in-Ok-steps_at.left.now
    (record { behind = c.in-Some.left.now; after = c.in-Ok.left.now; atoms_are = c.in-Some.ensures.text; rules_are = c.in-Ok.ensures.text; items_are = c.in-Ok-steps_at.ensures.text })
    line (omega (arith, c.len.ensures, c.len-then-not-is_empty.ensures)) (is_left c.in-Ok-steps_at.left.now c.if-not-is_empty.ensures)

pub returns-clause-only : goal.returns-clause-only
returns-clause-only c =
    list_alone c.args.text.now c.in-Some.atoms c.in-Ok.rules.items c.in-Ok-steps_at.steps.items c.in-Ok-steps_at.left.now
    (record { behind = c.in-Some.left.now; after = c.in-Ok.left.now; atoms_are = c.in-Some.ensures.text; rules_are = c.in-Ok.ensures.text; items_are = c.in-Ok-steps_at.ensures.text })
