use Rattle.std.proofs.Common.{◌≡◌, drop, map}
use Rattle.serde_json.specs.View.{view}
use Rattle.team_files.specs.Heads.{missing_in_team, missing_in_each}
use Rattle.team_files.proofs.missing.check_each_team.Given as goal

-- no team before this one lacks a member
abbrev pub invariant-loop-team : goal.invariant-loop-team
invariant-loop-team l = missing_in_each (missing_in_team l.kind) (map view (drop l.team-index l.teams)) ≡ missing_in_each (missing_in_team l.kind) (map view l.teams)
