use Rattle.std.proofs.Common.{◌≡◌, ◌++◌, drop}
use Rattle.std.specs.Prelude.{option_map}
use Rattle.count_core.specs.Steps.{rule_at}
use Rattle.refutations.specs.Leading.{leading}
use Rattle.refutations.proofs.leading.keep_leading.Given as goal

-- those kept so far, and then those that lead on from what is set by now
abbrev pub invariant-loop-hint : goal.invariant-loop-hint
invariant-loop-hint l = leading (rule_at l.problem l.earlier) l.fn.assignment l.candidates ≡ option_map (λ gs. l.kept.items ++ gs) (leading (rule_at l.problem l.earlier) l.assignment (drop l.hint-index l.candidates))
