use Rattle.std.proofs.Common.{◌<◌, length}
use Rattle.refutations.proofs.LastSteps.{first_refutation}
use Rattle.refutations.proofs.proof_log.ProofLog.closed.Goals as goal

pub of-requires : goal.of-requires
of-requires c =
    let lt : c.args.step < length c.self.inside.steps.items = rw (← c.self.view_is) at c.requires.within in
    rw (c.in_ok-problem.ensures, c.in_ok-question.ensures, c.in_ok-steps.ensures, c.as_slice.ensures.value) (first_refutation _ _ _ _ lt c.self.invariant.accepted (rw (← c.self.view_is) at c.requires.negates))
