use Rattle.std.proofs.Common.{◌≡◌, ◌+◌, arith}
use Rattle.list_texts.specs.ListTexts.{question_line, FitsQuestion}
use Rattle.list_texts.proofs.Lists.{is_left, inquiry_alone, no_inquiry_left, later_wrong}
use Rattle.list_texts.proofs.inquiry.Inquiry.read.Goals as goal

pub returns-then-not-is_empty-clause-none : goal.returns-then-not-is_empty-clause-none
returns-then-not-is_empty-clause-none c = λ line e.
    no_inquiry_left c.args.text.now c.in-Some.atoms c.in-Ok.rules.items c.in-Ok-questions_at.questions.items c.in-Ok-questions_at.left.now
    (record { behind = c.in-Some.left.now; after = c.in-Ok.left.now; atoms_are = c.in-Some.ensures.text; rules_are = c.in-Ok.ensures.text; items_are = c.in-Ok-questions_at.ensures.text })
    (is_left c.in-Ok-questions_at.left.now c.if-not-is_empty.ensures)

pub returns-then-not-is_empty-clause-first : goal.returns-then-not-is_empty-clause-first
returns-then-not-is_empty-clause-first c = λ line e.
    let same : c.len.result + c.len-then-not-is_empty.result + 2 ≡ line = cc in
    later_wrong question_line FitsQuestion c.args.text.now c.in-Some.atoms c.in-Ok.rules.items c.in-Ok-questions_at.questions.items c.in-Ok-questions_at.left.now
    (record { behind = c.in-Some.left.now; after = c.in-Ok.left.now; atoms_are = c.in-Some.ensures.text; rules_are = c.in-Ok.ensures.text; items_are = c.in-Ok-questions_at.ensures.text })
    line (omega (arith, c.len.ensures, c.len-then-not-is_empty.ensures)) (is_left c.in-Ok-questions_at.left.now c.if-not-is_empty.ensures)

pub returns-clause-only : goal.returns-clause-only
returns-clause-only c =
    inquiry_alone c.args.text.now c.in-Some.atoms c.in-Ok.rules.items c.in-Ok-questions_at.questions.items c.in-Ok-questions_at.left.now
    (record { behind = c.in-Some.left.now; after = c.in-Ok.left.now; atoms_are = c.in-Some.ensures.text; rules_are = c.in-Ok.ensures.text; items_are = c.in-Ok-questions_at.ensures.text })
