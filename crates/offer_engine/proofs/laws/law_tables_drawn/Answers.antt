use Rattle.draw_state.specs.TableBalls.{TablesAreDrawn}
use Rattle.offer_engine.specs.Laws.{OfferExists, TablesDrawn}
use Rattle.offer_engine.proofs.laws.law_tables_drawn.Goals as goal

with_offers : TablesAreDrawn → OfferExists → TablesDrawn
with_offers drawn offers file table formed legal = drawn file table formed (λ later state. offers file later formed state) legal

pub returns : goal.returns
returns c = with_offers c.law_tables_are_drawn.ensures c.law_offer_exists.ensures
