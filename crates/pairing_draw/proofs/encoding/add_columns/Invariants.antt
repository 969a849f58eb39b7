use Rattle.std.proofs.Common.{◌≡◌, ◌++◌, map}
use Rattle.std.specs.List.{range_with_len}
use Rattle.pairing_draw.specs.Encoding.{column_rule}
use Rattle.pairing_draw.proofs.encoding.add_columns.Given as goal

-- the rules of the winners so far were added
abbrev pub invariant-loop-winner : goal.invariant-loop-winner
invariant-loop-winner l = l.rules.items ≡ l.fn.rules.items ++ map (column_rule l.runners l.winners) (range_with_len 0 l.winner)
