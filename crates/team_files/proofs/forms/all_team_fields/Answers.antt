use Rattle.std.proofs.Common.{◌∙◌}
use Rattle.serde_json.specs.View.{view}
use Rattle.team_files.proofs.TeamReading.{one_more}
use Rattle.team_files.proofs.forms.all_team_fields.Goals as goal

pub loop-team-preserved : goal.loop-team-preserved
loop-team-preserved c = rw c.in_ok-push.ensures.items (one_more view c.args.kind c.args.pots c.args.list.now c.loop-team.team-index c.team-item.result c.loop-team.teams.items c.in_ok-team_fields.field-0 c.loop-team-test.true c.team-item.is c.in_ok-team_fields.ensures ∙ c.loop-team.invariant)
