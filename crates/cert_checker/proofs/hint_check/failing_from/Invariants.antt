use Rattle.std.proofs.Common.{◌≡◌, drop, length}
use Rattle.count_core.specs.Steps.{rule_at, failing_from}
use Rattle.cert_checker.proofs.hint_check.failing_from.Given as goal

-- the hints left, applied to what is set by now, decide
abbrev pub invariant-loop-i : goal.invariant-loop-i
invariant-loop-i l = record {
  rest : failing_from (rule_at l.problem l.earlier) l.assignment (drop l.i l.hints) l.i ≡ failing_from (rule_at l.problem l.earlier) l.fn.assignment l.hints 0;
  len : length l.assignment ≡ length l.fn.assignment;
}
