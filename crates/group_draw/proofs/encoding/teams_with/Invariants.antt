use Rattle.std.proofs.Common.{◌≡◌, ◌++◌, drop}
use Rattle.draw_tables.specs.Pots.{AreTeamsOf, holds, teams_from}
use Rattle.group_draw.proofs.encoding.teams_with.Given as goal

-- those so far and those of the teams left are all of them
abbrev pub invariant-loop-place : goal.invariant-loop-place
invariant-loop-place l = record {
  found : l.found.items ++ teams_from (holds l.tag) l.place (drop l.place l.file.teams) ≡ teams_from (holds l.tag) 0 l.file.teams;
  within : AreTeamsOf l.file l.found.items;
}
