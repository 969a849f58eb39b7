use Rattle.pairing_draw.specs.Encoding.{column_rule}
use Rattle.pairing_draw.proofs.AtomNumbers.{more}
use Rattle.pairing_draw.proofs.encoding.add_columns.Goals as goal

pub loop-winner-preserved : goal.loop-winner-preserved
loop-winner-preserved c = more (column_rule c.args.runners c.args.winners) c.loop-winner.winner _ _ _ _ c.loop-winner.invariant c.in_ok-column_rule.ensures c.in_ok-push.ensures.items
