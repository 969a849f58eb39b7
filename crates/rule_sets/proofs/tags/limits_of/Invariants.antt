use Rattle.std.proofs.Common.{◌≡◌, map, take}
use Rattle.rule_sets.specs.Files.{limit_of}
use Rattle.rule_sets.proofs.tags.limits_of.Given as goal

-- the limits so far
abbrev pub invariant-loop-limit : goal.invariant-loop-limit
invariant-loop-limit l = l.copies.items ≡ map limit_of (take l.limit-index l.limits)
