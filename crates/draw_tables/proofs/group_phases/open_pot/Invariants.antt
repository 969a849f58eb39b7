use Rattle.std.proofs.Common.{◌≡◌, ◌+◌, ◌-◌}
use Rattle.std.specs.Prelude.{find}
use Rattle.std.specs.List.{range_with_len}
use Rattle.draw_tables.specs.GroupPhases.{has_undrawn, open_pot}
use Rattle.draw_tables.proofs.group_phases.open_pot.Given as goal

-- no pot before this one has undrawn teams
abbrev pub invariant-loop-place : goal.invariant-loop-place
invariant-loop-place l = find (has_undrawn l.file l.moves) (range_with_len (l.place + 1) (l.file.pots - l.place)) ≡ open_pot l.file l.moves
