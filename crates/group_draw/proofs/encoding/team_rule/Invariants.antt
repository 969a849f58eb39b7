use Rattle.std.proofs.Common.{◌≡◌, map}
use Rattle.std.specs.List.{range_with_len}
use Rattle.group_draw.specs.Encoding.{number_lit}
use Rattle.group_draw.proofs.encoding.team_rule.Given as goal

-- the literals of the groups so far
abbrev pub invariant-loop-group : goal.invariant-loop-group
invariant-loop-group l = l.lits.items ≡ map (number_lit l.file l.place) (range_with_len 0 l.group)
