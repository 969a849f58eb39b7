use Rattle.count_core.proofs.Soundness.{refuted_fail}
use Rattle.refutations.proofs.closed.Closed.question.Goals as goal

pub returns-clause-fails : goal.returns-clause-fails
returns-clause-fails c = rw (← c.self.view_is) (refuted_fail _ _ _ c.self.invariant)
