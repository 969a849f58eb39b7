use Rattle.offer_engine.proofs.offer.Offer.state.Goals as goal

pub returns-clause-clean : goal.returns-clause-clean
returns-clause-clean c = rw (← c.self.view_is) c.self.invariant.clean
