use Rattle.std.proofs.Common.{◌≡◌, take}
use Rattle.team_files.proofs.teams.Teams.clone_in.Given as goal

-- the teams so far
abbrev pub invariant-loop-team : goal.invariant-loop-team
invariant-loop-team l = l.teams.items ≡ take l.team-index l.all
