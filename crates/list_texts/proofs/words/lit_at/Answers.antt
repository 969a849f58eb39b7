use Rattle.list_texts.proofs.WordFronts.{no_lit}
use Rattle.list_texts.proofs.words.lit_at.Goals as goal

pub returns-in_err-positive-clause-text : goal.returns-in_err-positive-clause-text
returns-in_err-positive-clause-text c = rw c.from_residual.ensures (no_lit c.args.text.now c.in_err-positive.ensures.text)
