use Rattle.std.proofs.Common.{◌≡◌, map}
use Rattle.std.specs.List.{range_with_len}
use Rattle.group_draw.specs.Decoding.{place_from}
use Rattle.group_draw.proofs.positions.places_from.Given as goal

-- the places of the teams so far
abbrev pub invariant-loop-place : goal.invariant-loop-place
invariant-loop-place l = l.places.items ≡ map (place_from l.file l.groups l.positions) (range_with_len 0 l.place)
