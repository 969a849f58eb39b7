use Rattle.std.proofs.Common.{◌≡◌, ◌≤◌, ◌+◌, drop}
use Rattle.std.specs.Prelude.{count_by}
use Rattle.draw_tables.specs.Pots.{holds, teams_from, teams_with}
use Rattle.draw_tables.specs.GroupTables.{stands_in, number_in}
use Rattle.draw_tables.proofs.group_rules.number_with.Given as goal

-- those so far and those of the rest are all of them
abbrev pub invariant-loop-place : goal.invariant-loop-place
invariant-loop-place l = record {
  few : l.number ≤ l.place;
  whole : l.number + count_by (stands_in l.places l.group) (teams_from (holds l.tag) l.place (drop l.place l.teams)) ≡ number_in l.places l.group (teams_with l.tag l.file);
}
