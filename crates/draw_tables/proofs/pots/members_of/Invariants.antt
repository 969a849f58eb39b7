use Rattle.std.proofs.Common.{◌≡◌, ◌++◌, drop}
use Rattle.draw_tables.specs.Pots.{pot_from}
use Rattle.draw_tables.proofs.pots.members_of.Given as goal

-- those so far and those of the rest are all of them
abbrev pub invariant-loop-place : goal.invariant-loop-place
invariant-loop-place l = l.found.items ++ pot_from l.pot l.place (drop l.place l.teams) ≡ pot_from l.pot 0 l.teams
