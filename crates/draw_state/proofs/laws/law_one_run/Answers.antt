use Rattle.draw_state.proofs.Steps.{one_run_law}
use Rattle.draw_state.proofs.laws.law_one_run.Goals as goal

pub returns : goal.returns
returns c = one_run_law
