use Rattle.std.proofs.Common.{◌≡◌, map}
use Rattle.std.specs.List.{range_with_len}
use Rattle.pairing_draw.specs.Encoding.{pair_lit}
use Rattle.pairing_draw.proofs.encoding.row_rule.Given as goal

-- the literals of the winners so far
abbrev pub invariant-loop-winner : goal.invariant-loop-winner
invariant-loop-winner l = l.lits.items ≡ map (λ w. pair_lit l.winners l.runner w) (range_with_len 0 l.winner)
