use Rattle.std.proofs.Common.{sym, ◌∙◌, []}
use Rattle.count_core.proofs.Soundness.{clauses_follow}
use Rattle.cert_checker.proofs.FirstBad.{all_accepted, none_bad, first_is_bad, bad_is_first}
use Rattle.cert_checker.proofs.checking.check.Goals as goal

pub returns-clause-accepted : goal.returns-clause-accepted
returns-clause-accepted c = (
  λ e. all_accepted c.args.problem.now [] c.args.steps.now 0 (sym c.first_bad.ensures ∙ e),
  λ h. c.first_bad.ensures ∙ none_bad c.args.problem.now [] c.args.steps.now 0 h,
)

pub returns-clause-bad : goal.returns-clause-bad
returns-clause-bad c = λ n h. (
  λ e. first_is_bad c.args.problem.now c.args.steps.now n h (sym c.first_bad.ensures ∙ e),
  λ b. c.first_bad.ensures ∙ bad_is_first c.args.problem.now c.args.steps.now n h b,
)

pub returns-clause-follows : goal.returns-clause-follows
returns-clause-follows c = λ e. clauses_follow c.args.problem.now c.args.steps.now (all_accepted c.args.problem.now [] c.args.steps.now 0 (sym c.first_bad.ensures ∙ e))
