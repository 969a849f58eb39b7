use Rattle.std.proofs.Common.{◌≡◌, ◌++◌, map}
use Rattle.std.specs.List.{range_with_len}
use Rattle.group_draw.specs.Encoding.{pair_rule}
use Rattle.group_draw.proofs.encoding.add_groups_of_pair.Given as goal

-- the rules of the groups so far were added
abbrev pub invariant-loop-group : goal.invariant-loop-group
invariant-loop-group l = l.rules.items ≡ l.fn.rules.items ++ map (pair_rule l.file l.pair) (range_with_len 0 l.group)
