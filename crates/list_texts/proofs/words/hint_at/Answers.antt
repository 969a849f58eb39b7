use Rattle.list_texts.proofs.WordFronts.{no_hint}
use Rattle.list_texts.proofs.words.hint_at.Goals as goal

pub returns-in_err-is_rule-clause-text : goal.returns-in_err-is_rule-clause-text
returns-in_err-is_rule-clause-text c = rw c.from_residual.ensures (no_hint c.args.text.now c.in_err-is_rule.ensures.text)
