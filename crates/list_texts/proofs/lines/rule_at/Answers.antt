use Rattle.list_texts.proofs.LineFronts.{no_rule, no_rule_end}
use Rattle.list_texts.proofs.lines.rule_at.Goals as goal

pub returns-in_default-clause-text : goal.returns-in_default-clause-text
returns-in_default-clause-text c = no_rule c.args.text.now c.in_default.ensures.text

pub returns-in_default-after-clause-text : goal.returns-in_default-after-clause-text
returns-in_default-after-clause-text c =
    no_rule_end c.args.text.now (c.in-Some.lo, c.in-Some.hi) c.in-Some.left.now c.in_ok-lits.lits.items c.in_ok-lits.left.now c.in-Some.ensures.text c.in_ok-lits.ensures.text c.in_default-after.ensures.text
