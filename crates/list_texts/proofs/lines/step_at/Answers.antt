use Rattle.list_texts.proofs.LineFronts.{no_step_slash, no_step_end}
use Rattle.list_texts.proofs.lines.step_at.Goals as goal

pub returns-in_default-slash_at-clause-text : goal.returns-in_default-slash_at-clause-text
returns-in_default-slash_at-clause-text c = no_step_slash c.args.text.now c.in-Some.left.now c.in_ok-clause.clause.items c.in_ok-clause.left.now c.in-Some.ensures.text c.in_ok-clause.ensures.text c.in_default-slash_at.ensures.text

pub returns-in_default-after-clause-text : goal.returns-in_default-after-clause-text
returns-in_default-after-clause-text c =
    no_step_end c.args.text.now c.in-Some.left.now c.in_ok-clause.clause.items c.in_ok-clause.left.now c.in-Some-slash_at.left.now c.in_ok-hints.hints.items c.in_ok-hints.left.now c.in-Some.ensures.text c.in_ok-clause.ensures.text c.in-Some-slash_at.ensures.text c.in_ok-hints.ensures.text c.in_default-after.ensures.text
