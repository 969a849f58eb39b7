use Rattle.draw_top.proofs.OneAnswer.{answer_exists}
use Rattle.draw_top.proofs.laws.law_answer_exists.Goals as goal

pub returns : goal.returns
returns c = answer_exists c.law_offer_exists.ensures
