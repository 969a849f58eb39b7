use Rattle.std.proofs.Common.{◌≡◌, ◌-◌, ◌++◌}
use Rattle.std.specs.Prelude.{option_map}
use Rattle.draw_tables.specs.Reading.{spaced_teams}
use Rattle.draw_tables.proofs.table_reading.read_spaced.Given as goal

-- the teams so far and those of the rest are all of them
abbrev pub invariant-loop-place : goal.invariant-loop-place
invariant-loop-place l =
    option_map (λ ts. l.found.items ++ ts) (spaced_teams l.teams (l.number - l._place) l.rest) ≡ option_map (λ ts. l.fn.found.items ++ ts) (spaced_teams l.teams l.number l.bytes)
