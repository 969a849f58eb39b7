use Rattle.std.proofs.Common.{◌≡◌, ℕ, ◌+◌, ◌<◌, false}
use Rattle.draw_tables.specs.GroupPasses.{breaks_in, first_of, IsNumberOf}
use Rattle.draw_tables.proofs.group_judging.first_number.Given as goal

-- the group does not break the rule by a number before this one
abbrev pub invariant-loop-place : goal.invariant-loop-place
invariant-loop-place l = (n : ℕ) → n < first_of l.rule + l.place → IsNumberOf l.file l.rule n → breaks_in l.file l.places l.rule l.group n ≡ false
