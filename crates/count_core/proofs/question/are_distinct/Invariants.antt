use Rattle.std.proofs.Common.{◌≡◌, drop}
use Rattle.count_core.specs.Problems.{repeats}
use Rattle.count_core.proofs.question.are_distinct.Given as goal

-- those left decide
abbrev pub invariant-loop-i : goal.invariant-loop-i
invariant-loop-i l = repeats (drop l.i l.lits) ≡ repeats l.lits
