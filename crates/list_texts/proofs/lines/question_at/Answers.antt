use Rattle.list_texts.proofs.LineFronts.{no_question_end}
use Rattle.list_texts.proofs.lines.question_at.Goals as goal

pub returns-in_default-after-clause-text : goal.returns-in_default-after-clause-text
returns-in_default-after-clause-text c =
    no_question_end c.args.text.now c.in-Some.left.now c.in_ok-lits.lits.items c.in_ok-lits.left.now c.in-Some.ensures.text c.in_ok-lits.ensures.text c.in_default-after.ensures.text
