use Rattle.list_counts.proofs.Ones.{more}
use Rattle.group_draw.specs.Encoding.{team_rule}
use Rattle.group_draw.proofs.encoding.add_team_rules.Goals as goal

pub loop-place-preserved : goal.loop-place-preserved
loop-place-preserved c = more (team_rule c.args.file.now) c.loop-place.place _ _ _ _ c.loop-place.invariant c.in_ok-team_rule.ensures c.in_ok-push.ensures.items
