use Rattle.draw_top.proofs.OneAnswer.{answer_or_refusal}
use Rattle.draw_top.proofs.laws.law_answer_or_refusal.Goals as goal

pub returns : goal.returns
returns c = answer_or_refusal
