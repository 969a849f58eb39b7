use Rattle.std.proofs.Common.{map}
use Rattle.list_counts.proofs.Ones.{joined_more}
use Rattle.group_draw.specs.Encoding.{limit_rule}
use Rattle.group_draw.proofs.encoding.add_limit_rules.Goals as goal

pub loop-group-preserved : goal.loop-group-preserved
loop-group-preserved c = joined_more (λ group. map (limit_rule c.args.file.now group) c.args.file.now.limits) c.loop-group.group _ _ _ c.loop-group.invariant c.in_ok-add_limits_of_group.ensures
