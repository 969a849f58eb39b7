use Rattle.draw_state.proofs.Steps.{steps_below_limit}
use Rattle.draw_state.proofs.laws.law_steps_below_limit.Goals as goal

pub returns : goal.returns
returns c = steps_below_limit
