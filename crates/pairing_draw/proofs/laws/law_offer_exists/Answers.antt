use Rattle.pairing_draw.proofs.Existence.{offer_exists}
use Rattle.pairing_draw.proofs.laws.law_offer_exists.Goals as goal

pub returns : goal.returns
returns c = offer_exists
