use Rattle.std.proofs.Common.{◌≡◌}
use Rattle.std.specs.Prelude.{filter, not}
use Rattle.std.specs.List.{range_with_len}
use Rattle.list_counts.specs.Filling.{is_wished}
use Rattle.list_counts.proofs.filling.free_positions.Given as goal

-- the free positions so far
abbrev pub invariant-loop-place : goal.invariant-loop-place
invariant-loop-place l = l.free.items ≡ filter (λ p. not (is_wished l.wishes p)) (range_with_len 1 l.place)
