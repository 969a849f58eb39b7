use Rattle.offer_engine.proofs.TurnNeeds.{ready_or_waiting}
use Rattle.offer_engine.proofs.laws.law_ready_or_waiting.Goals as goal

pub returns : goal.returns
returns c = ready_or_waiting c.law_one_outcome.ensures
