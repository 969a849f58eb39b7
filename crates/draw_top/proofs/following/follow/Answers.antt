use Rattle.draw_top.proofs.RowsOfStatuses.{draw_asked}
use Rattle.draw_top.proofs.following.follow.Goals as goal

pub returns-clause-ends : goal.returns-clause-ends
returns-clause-ends g c = draw_asked _ _ _ _ (c.is_follow.ensures.0 c.if-not-is_follow.false) c.follow_input.ensures.ends
