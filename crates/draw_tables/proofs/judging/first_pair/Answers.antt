use Rattle.std.proofs.Common.{◌∙◌, sym}
use Rattle.draw_tables.specs.Pairings.{breaks}
use Rattle.draw_tables.proofs.PassSteps.{pair_passed, pair_broken, pair_kept, pairs_ended}
use Rattle.draw_tables.proofs.judging.first_pair.Goals as goal

pub loop-place-preserved-then-get-ne2 : goal.loop-place-preserved-then-get-ne2
loop-place-preserved-then-get-ne2 c = record {
  teams = c.loop-place.invariant.teams;
  same = pair_passed c.loop-place.place c.teams-teams.result.now c.get.result.now c.get.ensures (breaks c.args.file.now c.args.rule) c.loop-place.rest.now _ c.loop-place.invariant.same c.if-get-ne2.true;
}

pub returns-in_default : goal.returns-in_default
returns-in_default c = pairs_ended c.loop-place.place c.teams-teams.result.now c.get.result.now c.get.ensures (breaks c.args.file.now c.args.rule) c.loop-place.rest.now _ c.loop-place.invariant.same c.if-get-ne2.false c.in_default.ensures.cases

pub returns-then-breaks : goal.returns-then-breaks
returns-then-breaks c = pair_broken c.loop-place.place c.teams-teams.result.now c.get.result.now c.get.ensures (breaks c.args.file.now c.args.rule) c.loop-place.rest.now _ c.loop-place.invariant.same c.in-Some.winner.now c.in-Some.others.now c.if-get-ne2.false c.in-Some.ensures.cases.0 (sym c.breaks.ensures ∙ c.if-breaks.true)

pub loop-place-preserved : goal.loop-place-preserved
loop-place-preserved c =
    let split = c.in-Some.ensures.cases.0 in
    record {
      teams = (rw split at c.loop-place.invariant.teams).1;
      same = pair_kept c.loop-place.place c.teams-teams.result.now c.get.result.now c.get.ensures (breaks c.args.file.now c.args.rule) c.loop-place.rest.now _ c.loop-place.invariant.same c.in-Some.winner.now c.in-Some.others.now c.if-get-ne2.false split (sym c.breaks.ensures ∙ c.if-breaks.false);
    }
