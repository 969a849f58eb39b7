use Rattle.draw_tables.proofs.OfferLaws.{offered_where_possible}
use Rattle.draw_tables.proofs.laws.law_offered_where_possible.Goals as goal

pub returns : goal.returns
returns c = offered_where_possible
