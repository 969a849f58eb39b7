use Rattle.std.proofs.Common.{◌≡◌, ◌+◌, ◌-◌, ◌++◌}
use Rattle.std.specs.List.{range_with_len}
use Rattle.draw_tables.specs.Pots.{later_positions}
use Rattle.draw_tables.specs.States.{position_choices}
use Rattle.draw_tables.proofs.choices.later_positions.Given as goal

-- the positions so far and those of the rest are all of them
abbrev pub invariant-loop-place : goal.invariant-loop-place
invariant-loop-place l = l.choices.items ++ position_choices (range_with_len (l.place + 2) (l.file.pots - 1 - l.place)) ≡ position_choices (later_positions l.file)
