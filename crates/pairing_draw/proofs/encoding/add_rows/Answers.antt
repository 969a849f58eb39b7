use Rattle.pairing_draw.specs.Encoding.{row_rule}
use Rattle.pairing_draw.proofs.AtomNumbers.{more}
use Rattle.pairing_draw.proofs.encoding.add_rows.Goals as goal

pub loop-runner-preserved : goal.loop-runner-preserved
loop-runner-preserved c = more (row_rule c.args.winners) c.loop-runner.runner _ _ _ _ c.loop-runner.invariant c.in_ok-row_rule.ensures c.in_ok-push.ensures.items
