use Rattle.rule_sets.proofs.LookUpSteps.{limits_more}
use Rattle.rule_sets.proofs.tags.limits_of.Goals as goal

pub loop-limit-preserved : goal.loop-limit-preserved
loop-limit-preserved c =
    limits_more c.args.limits.now c.loop-limit.limit-index c.limit-item.result c.in_ok-tag.tag c.loop-limit.copies.items c.push.new.self.items c.loop-limit-test.true c.limit-item.is c.in_ok-tag.ensures c.loop-limit.invariant c.in_ok-push.ensures.items
