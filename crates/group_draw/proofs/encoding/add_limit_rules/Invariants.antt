use Rattle.std.proofs.Common.{◌≡◌, ◌++◌, map}
use Rattle.std.specs.List.{flat_map, range_with_len}
use Rattle.group_draw.specs.Encoding.{limit_rule}
use Rattle.group_draw.proofs.encoding.add_limit_rules.Given as goal

-- the rules of the groups so far were added
abbrev pub invariant-loop-group : goal.invariant-loop-group
invariant-loop-group l = l.rules.items ≡ l.fn.rules.items ++ flat_map (λ group. map (limit_rule l.file group) l.file.limits) (range_with_len 0 l.group)
