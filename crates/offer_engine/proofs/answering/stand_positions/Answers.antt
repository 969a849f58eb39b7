use Rattle.std.proofs.Common.{◌++◌, [], ◌∷◌, get_or, sym, ap, ◌∙◌}
use Rattle.std.proofs.lemmas.List.{take_more, take_all, map_push}
use Rattle.count_core.proofs.Lists.{each_push}
use Rattle.draw_tables.specs.declared.moves.Choice.{Choice}
use Rattle.serial_search.specs.declared.outcome.Outcome.TheVariants.{Possible}
use Rattle.offer_engine.specs.declared.standing.Standing.{Standing}
use Rattle.offer_engine.specs.Offers.{StandsRight}
use Rattle.offer_engine.proofs.Standings.{Comes}
use Rattle.offer_engine.proofs.answering.stand_positions.Goals as goal

abbrev none : Choice
none = Choice.Team (record { 0 = 0 })

pub loop-choice-preserved : goal.loop-choice-preserved
loop-choice-preserved c =
    let state = c.args.state.now in
    let i = c.loop-choice.choice-index in
    let choice = get_or c.args.choices.now i none in
    let items = c.loop-choice.standings.items in
    let s : Choice × Standing = (choice, c.in_ok-standing.standing) in
    rw c.in_ok-push.ensures.items (
      map_push (λ (x : Choice × Standing). x.0) items s ∙ ap (λ cs. cs ++ choice ∷ []) c.loop-choice.invariant.0 ∙ sym (take_more c.args.choices.now i none c.loop-choice-test.true),
      each_push (StandsRight state.file state.moves) items s c.loop-choice.invariant.1 c.in_ok-standing.ensures.right,
      each_push (Comes (Possible c.args.values.now)) items s c.loop-choice.invariant.2 c.in_ok-standing.ensures.comes,
    )

pub returns-clause-choices : goal.returns-clause-choices
returns-clause-choices c = c.loop-choice.invariant.0 ∙ take_all c.loop-choice.choice-index c.args.choices.now c.loop-choice-test.false
