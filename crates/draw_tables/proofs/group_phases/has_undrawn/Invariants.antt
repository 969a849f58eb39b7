use Rattle.std.proofs.Common.{◌≡◌, drop, not}
use Rattle.std.specs.List.{list_any}
use Rattle.draw_tables.specs.Pots.{pot_from}
use Rattle.draw_tables.specs.Moves.{is_drawn}
use Rattle.draw_tables.specs.GroupPhases.{has_undrawn}
use Rattle.draw_tables.proofs.group_phases.has_undrawn.Given as goal

-- each team of the pot before this place was drawn
abbrev pub invariant-loop-place : goal.invariant-loop-place
invariant-loop-place l = list_any (λ t. not (is_drawn t l.moves)) (pot_from l.pot l.place (drop l.place l.teams)) ≡ has_undrawn l.file l.moves l.pot
