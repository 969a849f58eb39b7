use Rattle.std.proofs.Common.{◌≡◌, ◌++◌, map}
use Rattle.std.specs.List.{flat_map, range_with_len}
use Rattle.draw_tables.specs.Pots.{pots_of}
use Rattle.group_draw.specs.Encoding.{pot_rule}
use Rattle.group_draw.proofs.encoding.add_pot_rules.Given as goal

-- the rules of the groups so far were added
abbrev pub invariant-loop-group : goal.invariant-loop-group
invariant-loop-group l = l.rules.items ≡ l.fn.rules.items ++ flat_map (λ group. map (pot_rule l.file group) (pots_of l.file)) (range_with_len 0 l.group)
