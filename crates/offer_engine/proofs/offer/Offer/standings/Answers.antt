use Rattle.offer_engine.proofs.Standings.{exact_offer}
use Rattle.offer_engine.proofs.offer.Offer.standings.Goals as goal

pub returns-clause-offer : goal.returns-clause-offer
returns-clause-offer c =
    rw (c.as_slice.ensures.value, ← c.self.view_is)
    (exact_offer c.law_tables_satisfy.ensures c.law_tables_satisfy-2.ensures c.law_refuted_questions_fail.ensures c.law_held_positions.ensures.held c.self.inside.state.file (rw c.file.ensures.file at c.kind.ensures.formed)
    c.self.inside.state.moves c.self.inside.standings.items c.self.invariant.choices c.self.invariant.each)
