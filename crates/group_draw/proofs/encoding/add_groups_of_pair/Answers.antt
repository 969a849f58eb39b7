use Rattle.list_counts.proofs.Ones.{more}
use Rattle.group_draw.specs.Encoding.{pair_rule}
use Rattle.group_draw.proofs.encoding.add_groups_of_pair.Goals as goal

pub loop-group-preserved : goal.loop-group-preserved
loop-group-preserved c = more (pair_rule c.args.file.now c.args.pair) c.loop-group.group _ _ _ _ c.loop-group.invariant c.in_ok-between.ensures c.in_ok-push.ensures.items
