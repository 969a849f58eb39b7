use Rattle.std.proofs.Common.{◌≡◌, map}
use Rattle.std.specs.List.{range_with_len}
use Rattle.pairing_draw.specs.Encoding.{pair_lit}
use Rattle.pairing_draw.proofs.encoding.column_rule.Given as goal

-- the literals of the runners-up so far
abbrev pub invariant-loop-runner : goal.invariant-loop-runner
invariant-loop-runner l = l.lits.items ≡ map (λ r. pair_lit l.winners r l.winner) (range_with_len 0 l.runner)
