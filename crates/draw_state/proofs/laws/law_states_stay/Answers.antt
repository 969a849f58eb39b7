use Rattle.draw_state.proofs.Steps.{states_stay}
use Rattle.draw_state.proofs.laws.law_states_stay.Goals as goal

pub returns : goal.returns
returns c = states_stay
