use Rattle.std.proofs.Common.{◌≡◌, ◌∙◌, sym, ap, None, Some, is_some}
use Rattle.count_core.proofs.Renumbering.{push_accepted}
use Rattle.refutations.specs.Leading.{leading_hints}
use Rattle.refutations.proofs.KeptHints.{kept_step}
use Rattle.refutations.proofs.PartLeads.{part_kept}
use Rattle.refutations.proofs.LastSteps.{clause_pushed}
use Rattle.refutations.proofs.proof_log.ProofLog.add_leading.Goals as goal

pub returns-in_default-clause-leads : goal.returns-in_default-clause-leads
returns-in_default-clause-leads c = λ (kept, leads).
    let here : leading_hints c.self.inside.problem.value c.self.inside.steps.items c.args.clause.now c.args.hints.now ≡ Some kept = rw (← c.self.view_is) at leads in
    let none : leading_hints c.self.inside.problem.value c.self.inside.steps.items c.args.clause.now c.args.hints.now ≡ None = sym (rw (c.deref.ensures, c.as_slice.ensures.value, c.in_default.is) at c.in_ok-kept.ensures.kept) in
    cc

pub returns-in_default-clause-complete : goal.returns-in_default-clause-complete
returns-in_default-clause-complete c = λ (part, among, accepted).
    let here = part_kept c.self.inside.problem.value c.self.inside.steps.items c.args.clause.now c.args.hints.now part (rw c.deref.ensures at c.in_ok-kept.ensures.formed) among (rw (← c.self.view_is) at accepted) in
    let none : leading_hints c.self.inside.problem.value c.self.inside.steps.items c.args.clause.now c.args.hints.now ≡ None = sym (rw (c.deref.ensures, c.as_slice.ensures.value, c.in_default.is) at c.in_ok-kept.ensures.kept) in
    sym (ap is_some none) ∙ here

pub invariant_of-self-2 : goal.invariant_of-self-2
invariant_of-self-2 c =
    let kept : leading_hints c.self.inside.problem.value c.self.inside.steps.items c.args.clause.now c.args.hints.now ≡ Some c.in-Some.kept.items = sym (rw (c.deref.ensures, c.as_slice.ensures.value, c.in-Some.is) at c.in_ok-kept.ensures.kept) in
    let step = kept_step c.self.inside.problem.value c.self.inside.steps.items c.args.clause.now c.args.hints.now c.in-Some.kept.items kept in
    record {
      accepted = rw (c.in_ok-number.ensures.pushed, c.as_slice-2.ensures.value) (push_accepted _ _ _ c.self.invariant.accepted step.accepted);
      few = c.push_step.ensures.few;
      clear = c.filter_hints.ensures.clear;
    }

pub returns-clause-added : goal.returns-clause-added
returns-clause-added c =
    let kept : leading_hints c.self.inside.problem.value c.self.inside.steps.items c.args.clause.now c.args.hints.now ≡ Some c.in-Some.kept.items = sym (rw (c.deref.ensures, c.as_slice.ensures.value, c.in-Some.is) at c.in_ok-kept.ensures.kept) in
    let step = kept_step c.self.inside.problem.value c.self.inside.steps.items c.args.clause.now c.args.hints.now c.in-Some.kept.items kept in
    rw (← c.self.view_is) (record {
      kept = c.in-Some.kept.items;
      leads = kept;
      among = step.among;
      accepted = step.accepted;
      pushed = rw c.as_slice-2.ensures.value at c.in_ok-number.ensures.pushed;
    })

pub returns-clause-clause : goal.returns-clause-clause
returns-clause-clause c = rw c.in_ok-number.ensures.pushed (clause_pushed _ _ _ c.in_ok-number.ensures.number)
