use Rattle.std.proofs.Common.{[]}
use Rattle.list_counts.proofs.Ones.{more}
use Rattle.group_draw.specs.Encoding.{number_lit}
use Rattle.group_draw.proofs.encoding.team_rule.Goals as goal

pub loop-group-preserved : goal.loop-group-preserved
loop-group-preserved c = more (number_lit c.args.file.now c.args.place) c.loop-group.group [] _ _ _ c.loop-group.invariant c.group_lit.ensures c.in_ok-push.ensures.items
