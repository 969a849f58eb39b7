use Rattle.std.proofs.Common.{◌≡◌, drop}
use Rattle.draw_tables.specs.Pots.{AreTeamsOf}
use Rattle.group_draw.specs.Decoding.{first_in}
use Rattle.group_draw.proofs.positions.team_in.Given as goal

-- the teams left decide, and are of the file
abbrev pub invariant-loop-team : goal.invariant-loop-team
invariant-loop-team l = record {
  first : first_in l.groups l.group (drop l.team-index l.teams) ≡ first_in l.groups l.group l.teams;
  teams : AreTeamsOf l.file (drop l.team-index l.teams);
}
