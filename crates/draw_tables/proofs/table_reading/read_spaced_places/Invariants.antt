use Rattle.std.proofs.Common.{◌≡◌, ◌-◌, ◌++◌}
use Rattle.std.specs.Prelude.{option_map}
use Rattle.draw_tables.specs.Reading.{spaced_places}
use Rattle.draw_tables.proofs.table_reading.read_spaced_places.Given as goal

-- the places so far and those of the rest are all of them
abbrev pub invariant-loop-place : goal.invariant-loop-place
invariant-loop-place l =
    option_map (λ ps. l.found.items ++ ps) (spaced_places l.groups l.positions (l.number - l._place) l.left) ≡ option_map (λ ps. l.fn.found.items ++ ps) (spaced_places l.groups l.positions l.number l.bytes)
