use Rattle.std.proofs.Common.{◌≡◌, take}
use Rattle.rule_sets.proofs.draw_file.clone_limits.Given as goal

-- the limits so far
abbrev pub invariant-loop-limit : goal.invariant-loop-limit
invariant-loop-limit l = l.copies.items ≡ take l.limit-index l.limits
