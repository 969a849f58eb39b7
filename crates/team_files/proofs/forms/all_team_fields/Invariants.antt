use Rattle.std.proofs.Common.{◌≡◌, ◌++◌, Ok, drop, map}
use Rattle.serde_json.specs.View.{view}
use Rattle.team_files.specs.Answers.{after}
use Rattle.team_files.specs.Heads.{all_team_fields}
use Rattle.team_files.proofs.forms.all_team_fields.Given as goal

-- the teams so far, and those of the rest
abbrev pub invariant-loop-team : goal.invariant-loop-team
invariant-loop-team l = after (all_team_fields l.kind l.pots (map view (drop l.team-index l.list))) (λ teams. Ok (l.teams.items ++ teams)) ≡ all_team_fields l.kind l.pots (map view l.list)
