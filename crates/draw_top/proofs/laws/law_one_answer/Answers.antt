use Rattle.draw_top.proofs.OneAnswer.{one_answer}
use Rattle.draw_top.proofs.laws.law_one_answer.Goals as goal

pub returns : goal.returns
returns c = one_answer
