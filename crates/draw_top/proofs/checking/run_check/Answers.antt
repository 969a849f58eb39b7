use Rattle.draw_top.proofs.RowsOfStatuses.{drawcheck_asked}
use Rattle.draw_top.proofs.checking.run_check.Goals as goal

pub returns-clause-ends : goal.returns-clause-ends
returns-clause-ends g c = drawcheck_asked _ _ _ _ (c.is_judge.ensures.0 c.if-not-is_judge.false) c.judge_input.ensures.ends
