use Rattle.std.proofs.Common.{ℕ, ◌<◌}
use Rattle.draw_tables.specs.GroupPasses.{GroupKeeps}
use Rattle.draw_tables.proofs.group_judging.first_breach.Given as goal

-- each group before this one keeps the rule
abbrev pub invariant-loop-group : goal.invariant-loop-group
invariant-loop-group l = (g : ℕ) → g < l.group → GroupKeeps l.file l.places l.rule g
