use Rattle.std.proofs.Common.{◌≡◌, ◌++◌, drop, map}
use Rattle.group_draw.specs.Encoding.{limit_rule}
use Rattle.group_draw.proofs.encoding.add_limits_of_group.Given as goal

-- what was added and the rules of the limits left are all
abbrev pub invariant-loop-limit : goal.invariant-loop-limit
invariant-loop-limit l =
    l.rules.items ++ map (limit_rule l.file l.group) (drop l.limit-index l.file.limits)
    ≡ l.fn.rules.items ++ map (limit_rule l.file l.group) l.file.limits
