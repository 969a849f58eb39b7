use Rattle.offer_engine.proofs.tests.fault_of.Goals as goal

pub offer_from-requires-clause-problem : goal.offer_from-requires-clause-problem
offer_from-requires-clause-problem c = rw c.deref.ensures.value c.in_ok-answers.ensures
