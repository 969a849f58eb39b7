use Rattle.std.proofs.Common.{◌≡◌, drop, length}
use Rattle.count_core.specs.Steps.{failing_from, rule_at}
use Rattle.refutations.proofs.hint_check.failing_from.Given as goal

-- the hints left decide
abbrev pub invariant-loop-i : goal.invariant-loop-i
invariant-loop-i l = record {
  rest : failing_from (rule_at l.problem l.earlier) l.assignment (drop l.i l.hints) l.i ≡ failing_from (rule_at l.problem l.earlier) l.fn.assignment l.hints 0;
  atoms : length l.assignment ≡ length l.fn.assignment;
}
