use Rattle.std.proofs.Common.{◌≡◌, ◌∙◌}
use Rattle.refutations.specs.Derivations.{clause_at}
use Rattle.refutations.specs.JoinedClauses.{joined_clause}
use Rattle.refutations.proofs.JoinedSteps.{joined_step}
use Rattle.refutations.proofs.proof_log.ProofLog.add_joined.Goals as goal

pub returns-in-Ok-clause-joined : goal.returns-in-Ok-clause-joined
returns-in-Ok-clause-joined c =
    let step = joined_step c.args.self.now.problem c.args.self.now.steps c.args.split c.args.first c.args.second c.steps.ensures.accepted c.requires.first c.requires.second c.requires.sides in
    let clause : c.as_slice.result.now ≡ joined_clause c.args.split (clause_at c.args.self.now.steps c.args.first) (clause_at c.args.self.now.steps c.args.second) = c.as_slice.ensures.value ∙ (rw c.steps.ensures.steps at c.in_ok-clause.ensures) in
    rw (c.in-Ok.ensures.clause, clause) step.joined

pub unreachable-requires : goal.unreachable-requires
unreachable-requires c =
    let step = joined_step c.args.self.now.problem c.args.self.now.steps c.args.split c.args.first c.args.second c.steps.ensures.accepted c.requires.first c.requires.second c.requires.sides in
    let clause : c.as_slice.result.now ≡ joined_clause c.args.split (clause_at c.args.self.now.steps c.args.first) (clause_at c.args.self.now.steps c.args.second) = c.as_slice.ensures.value ∙ (rw c.steps.ensures.steps at c.in_ok-clause.ensures) in
    let memory = c.in-Err-NotAccepted.ensures.taken (rw clause step.accepted) in
    cc
