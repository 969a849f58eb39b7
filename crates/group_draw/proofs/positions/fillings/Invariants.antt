use Rattle.std.proofs.Common.{◌≡◌}
use Rattle.std.specs.List.{flat_map, range_with_len}
use Rattle.list_counts.specs.Filling.{filled}
use Rattle.group_draw.specs.Decoding.{wishes_in}
use Rattle.group_draw.proofs.positions.fillings.Given as goal

-- the positions of the groups so far
abbrev pub invariant-loop-group : goal.invariant-loop-group
invariant-loop-group l = l.positions.items ≡ flat_map (λ group. filled (wishes_in l.file l.moves l.groups group)) (range_with_len 0 l.group)
