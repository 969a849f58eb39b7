use Rattle.std.proofs.Common.{◌≡◌, drop}
use Rattle.std.specs.List.{list_any}
use Rattle.draw_tables.specs.Pots.{pot_from}
use Rattle.draw_tables.specs.GroupPasses.{has_head, has_place}
use Rattle.draw_tables.proofs.group_rules.has_head.Given as goal

-- no team of pot 1 before this place has position 1 of the group
abbrev pub invariant-loop-place : goal.invariant-loop-place
invariant-loop-place l = list_any (has_place l.places l.group 1) (pot_from 1 l.place (drop l.place l.teams)) ≡ has_head l.file l.places l.group
