use Rattle.std.proofs.Common.{◌≡◌, map, take, drop}
use Rattle.team_files.specs.Heads.{same_code_from, same_code_fault}
use Rattle.team_files.proofs.teams.codes_of.Given as goal

-- the codes so far, and no team before this one has the code of one before it
abbrev pub invariant-loop-team : goal.invariant-loop-team
invariant-loop-team l = record {
  codes : l.codes.keys ≡ map (λ team. team.code) (take l.team-index l.teams);
  none : same_code_from (take l.team-index l.teams) (drop l.team-index l.teams) ≡ same_code_fault l.teams;
}
