use Rattle.std.proofs.Common.{◌≡◌, ℕ, ◌<◌, true}
use Rattle.count_core.specs.Assignments.{makes_true}
use Rattle.group_draw.specs.Encoding.{group_lit}
use Rattle.group_draw.proofs.decoding.true_group.Given as goal

-- the atoms of the groups so far are not true
abbrev pub invariant-loop-group : goal.invariant-loop-group
invariant-loop-group l = (g : ℕ) → g < l.group → ¬ (makes_true l.values (group_lit l.file g l.team) ≡ true)
