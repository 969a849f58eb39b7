use Rattle.std.proofs.Common.{◌≡◌, ◌∙◌, inl, None, Some, sym}
use Rattle.count_core.specs.Steps.{step_of, IsAccepted, failing_hint}
use Rattle.count_core.proofs.Renumbering.{push_accepted}
use Rattle.refutations.proofs.LastSteps.{clause_pushed}
use Rattle.refutations.proofs.proof_log.ProofLog.add.Goals as goal

pub returns-in-Some-clause-told : goal.returns-in-Some-clause-told
returns-in-Some-clause-told c = λ n fails.
    let here : failing_hint c.self.inside.problem.value c.self.inside.steps.items (step_of c.args.clause.now c.args.hints.now) ≡ Some c.in-Some.hint = rw (c.deref.ensures, c.as_slice.ensures.value) at (sym c.in-Ok.ensures.answer ∙ c.in-Some.is) in
    let same : Some c.in-Some.hint ≡ Some n = sym here ∙ (rw (← c.self.view_is) at fails) in
    inl cc

pub returns-in-Some-clause-taken : goal.returns-in-Some-clause-taken
returns-in-Some-clause-taken c = λ accepted.
    let here : failing_hint c.self.inside.problem.value c.self.inside.steps.items (step_of c.args.clause.now c.args.hints.now) ≡ Some c.in-Some.hint = rw (c.deref.ensures, c.as_slice.ensures.value) at (sym c.in-Ok.ensures.answer ∙ c.in-Some.is) in
    let none : failing_hint c.self.inside.problem.value c.self.inside.steps.items (step_of c.args.clause.now c.args.hints.now) ≡ None = rw (← c.self.view_is) at accepted in
    cc

pub returns-clause-clause : goal.returns-clause-clause
returns-clause-clause c = rw c.in-Ok-push_step.ensures.pushed (clause_pushed _ _ _ c.in-Ok-push_step.ensures.number)

pub invariant_of-self-2 : goal.invariant_of-self-2
invariant_of-self-2 c =
    let accepted : IsAccepted c.self.inside.problem.value c.self.inside.steps.items (step_of c.args.clause.now c.args.hints.now) = rw (c.deref.ensures, c.as_slice.ensures.value) at (sym c.in-Ok.ensures.answer ∙ c.in_default-fault.is) in
    record {
      accepted = rw c.in-Ok-push_step.ensures.pushed (push_accepted _ _ _ c.self.invariant.accepted accepted);
      few = c.push_step.ensures.few;
      clear = c.check_step.ensures.clear;
    }
