use Rattle.list_texts.proofs.LineFronts.{no_hi}
use Rattle.list_texts.proofs.lines.bounds_at.Goals as goal

pub returns-in_err-hi-clause-text : goal.returns-in_err-hi-clause-text
returns-in_err-hi-clause-text c =
    rw c.from_residual-in_err-hi.ensures (no_hi c.args.text.now c.in_ok-left.left.now c.in_ok-lo.lo c.in_ok-lo.left.now c.in_ok-left.ensures.text c.in_ok-lo.ensures.text c.in_err-hi.ensures.text)
