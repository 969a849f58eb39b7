use Rattle.count_core.proofs.Soundness.{refuted_fail}
use Rattle.count_core.proofs.laws.law_refuted_questions_fail.Goals as goal

pub returns : goal.returns
returns c = refuted_fail
