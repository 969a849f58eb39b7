use Rattle.std.proofs.Common.{◌≡◌, ◌++◌, map}
use Rattle.std.specs.List.{range_with_len}
use Rattle.group_draw.specs.Encoding.{pot_rule}
use Rattle.group_draw.proofs.encoding.add_pots_of_group.Given as goal

-- the rules of the pots so far were added
abbrev pub invariant-loop-place : goal.invariant-loop-place
invariant-loop-place l = l.rules.items ≡ l.fn.rules.items ++ map (pot_rule l.file l.group) (range_with_len 1 l.place)
