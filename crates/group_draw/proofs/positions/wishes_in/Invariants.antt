use Rattle.std.proofs.Common.{◌≡◌, map}
use Rattle.std.specs.List.{range_with_len}
use Rattle.group_draw.specs.Decoding.{wish_in}
use Rattle.group_draw.proofs.positions.wishes_in.Given as goal

-- what is known of the pots so far
abbrev pub invariant-loop-place : goal.invariant-loop-place
invariant-loop-place l = l.wishes.items ≡ map (wish_in l.file l.moves l.groups l.group) (range_with_len 1 l.place)
