use Rattle.offer_engine.proofs.TurnNeeds.{one_wanted}
use Rattle.offer_engine.proofs.laws.law_one_wanted.Goals as goal

pub returns : goal.returns
returns c = one_wanted c.law_one_outcome.ensures
