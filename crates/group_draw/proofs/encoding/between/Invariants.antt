use Rattle.std.proofs.Common.{◌≡◌, ◌++◌, drop, map}
use Rattle.draw_tables.specs.Pots.{AreTeamsOf}
use Rattle.group_draw.specs.Encoding.{group_lit}
use Rattle.group_draw.proofs.encoding.between.Given as goal

-- the literals so far and those of the teams left are all
abbrev pub invariant-loop-team : goal.invariant-loop-team
invariant-loop-team l = record {
  lits : l.lits.items ++ map (group_lit l.file l.group) (drop l.team-index l.teams) ≡ map (group_lit l.file l.group) l.teams;
  teams : AreTeamsOf l.file (drop l.team-index l.teams);
}
