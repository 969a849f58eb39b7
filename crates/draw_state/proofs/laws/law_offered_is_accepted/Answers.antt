use Rattle.draw_state.proofs.Steps.{offered_is_accepted}
use Rattle.draw_state.proofs.laws.law_offered_is_accepted.Goals as goal

pub returns : goal.returns
returns c = offered_is_accepted
