use Rattle.draw_state.proofs.Outcomes.{one_outcome_law}
use Rattle.draw_state.proofs.laws.law_one_outcome.Goals as goal

pub returns : goal.returns
returns c = one_outcome_law
