use Rattle.std.proofs.Common.{◌<◌, length}
use Rattle.refutations.proofs.LastSteps.{first_lemma, last_of_first}
use Rattle.refutations.proofs.proof_log.ProofLog.lemma.Goals as goal

pub of-requires : goal.of-requires
of-requires c =
    let lt : c.args.step < length c.self.inside.steps.items = rw (← c.self.view_is) at c.requires in
    rw (c.in_ok-problem.ensures, c.in_ok-steps.ensures, c.as_slice.ensures.value) (first_lemma _ _ _ lt c.self.invariant.accepted)

pub returns-clause-clause : goal.returns-clause-clause
returns-clause-clause c =
    let lt : c.args.step < length c.self.inside.steps.items = rw (← c.self.view_is) at c.requires in
    rw (c.of.ensures, c.in_ok-steps.ensures, c.as_slice.ensures.value, ← c.self.view_is) (last_of_first _ _ lt)
