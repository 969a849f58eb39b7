use Rattle.draw_tables.proofs.PassSteps.{not_once_passed, not_once_next, not_once_found}
use Rattle.draw_tables.proofs.judging.first_not_once.Goals as goal

pub loop-place-preserved-then-get-ne1 : goal.loop-place-preserved-then-get-ne1
loop-place-preserved-then-get-ne1 c = not_once_passed c.loop-place.place c.teams-teams.result.now c.get.result.now c.get.ensures c.args.given.now _ c.if-get-ne1.true c.loop-place.invariant

pub returns-then-times-ne1 : goal.returns-then-times-ne1
returns-then-times-ne1 c = not_once_found c.loop-place.place c.teams-teams.result.now c.get.result.now c.get.ensures c.args.given.now _ c.times_given-times.result c.if-get-ne1.false c.times_given-times.ensures c.if-times-ne1.true c.loop-place.invariant

pub loop-place-preserved : goal.loop-place-preserved
loop-place-preserved c = not_once_next c.loop-place.place c.teams-teams.result.now c.get.result.now c.get.ensures c.args.given.now _ c.times_given-times.result c.if-get-ne1.false c.times_given-times.ensures c.if-times-ne1.false c.loop-place.invariant
