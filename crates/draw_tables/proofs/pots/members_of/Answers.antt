use Rattle.draw_tables.proofs.PotSteps.{pot_lacks, pot_pushed}
use Rattle.draw_tables.proofs.pots.members_of.Goals as goal

pub loop-place-preserved-then-get-pot : goal.loop-place-preserved-then-get-pot
loop-place-preserved-then-get-pot c = rw (← pot_lacks c.args.pot c.loop-place.place c.args.teams.now c.get.result.now c.get.ensures c.if-get-pot.true) c.loop-place.invariant

pub loop-place-preserved : goal.loop-place-preserved
loop-place-preserved c = pot_pushed c.args.pot c.loop-place.place c.args.teams.now c.get.result.now c.get.ensures c.loop-place.found.items _ _ c.if-get-pot.false c.in_ok-push.ensures.items c.loop-place.invariant
