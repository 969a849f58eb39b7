use Rattle.draw_tables.proofs.OfferLaws.{offer_where_decided}
use Rattle.draw_tables.proofs.laws.law_offer_where_decided.Goals as goal

pub returns : goal.returns
returns c = offer_where_decided
