use Rattle.draw_tables.proofs.OfferLaws.{one_offer}
use Rattle.draw_tables.proofs.laws.law_one_offer.Goals as goal

pub returns : goal.returns
returns c = one_offer
