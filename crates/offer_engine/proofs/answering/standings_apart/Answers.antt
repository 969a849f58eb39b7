use Rattle.std.proofs.Common.{◌++◌, [], ◌∷◌, length, get_or, arith, refl, sym, ap, ◌∙◌}
use Rattle.std.proofs.lemmas.List.{take_more, take_all, map_push}
use Rattle.std.proofs.lemmas.Option.{slice_get_read, slice_get-get_or}
use Rattle.count_core.proofs.Lists.{each_push}
use Rattle.draw_tables.specs.declared.moves.Choice.{Choice}
use Rattle.offer_engine.specs.declared.standing.Standing.{Standing}
use Rattle.offer_engine.proofs.Standings.{StandsAsAnswered, as_many_answers, answer_at, stand_apart}
use Rattle.offer_engine.proofs.answering.standings_apart.Goals as goal

abbrev none : Choice
none = Choice.Team (record { 0 = 0 })

pub standing_with-requires-clause-problem : goal.standing_with-requires-clause-problem
standing_with-requires-clause-problem c =
    let many = as_many_answers c.args.state.now.file c.args.state.now.moves c.args.choices.now c.args.answers.now c.requires.asked in
    c.requires.problem c.index-answers-place.result
    (c.loop-place.place, slice_get_read c.args.answers.now (length c.args.answers.now) c.loop-place.place c.index-answers-place.result refl (omega arith) c.index-answers-place.is)

pub standing_with-requires-clause-question : goal.standing_with-requires-clause-question
standing_with-requires-clause-question c =
    let many = as_many_answers c.args.state.now.file c.args.state.now.moves c.args.choices.now c.args.answers.now c.requires.asked in
    let there = slice_get_read c.args.answers.now (length c.args.answers.now) c.loop-place.place c.index-answers-place.result refl (omega arith) c.index-answers-place.is in
    answer_at c.args.state.now.file c.args.state.now.moves c.args.choices.now c.args.answers.now c.loop-place.place (get_or c.args.choices.now c.loop-place.place none) c.index-answers-place.result
    c.requires.asked (slice_get-get_or c.args.choices.now c.loop-place.place none c.loop-place-test.true) there

pub loop-place-preserved : goal.loop-place-preserved
loop-place-preserved c =
    let i = c.loop-place.place in
    let choice = get_or c.args.choices.now i none in
    let s : Choice × Standing = (choice, c.in_ok-standing.standing) in
    let many = as_many_answers c.args.state.now.file c.args.state.now.moves c.args.choices.now c.args.answers.now c.requires.asked in
    let there = slice_get_read c.args.answers.now (length c.args.answers.now) i c.index-answers-place.result refl (omega arith) c.index-answers-place.is in
    let question = answer_at c.args.state.now.file c.args.state.now.moves c.args.choices.now c.args.answers.now i choice c.index-answers-place.result
    c.requires.asked (slice_get-get_or c.args.choices.now i none c.loop-place-test.true) there in
    let stands : StandsAsAnswered c.args.state.now c.args.answers.now s = record {
      right = c.in_ok-standing.ensures.right;
      rests = (c.index-answers-place.result, (i, there), question, c.in_ok-standing.ensures.comes);
    } in
    rw c.in_ok-push.ensures.items (
      map_push (λ (x : Choice × Standing). x.0) c.loop-place.standings.items s ∙ ap (λ cs. cs ++ choice ∷ []) c.loop-place.invariant.0 ∙ sym (take_more c.args.choices.now i none c.loop-place-test.true),
      each_push (StandsAsAnswered c.args.state.now c.args.answers.now) c.loop-place.standings.items s c.loop-place.invariant.1 stands,
    )

pub returns : goal.returns
returns c =
    let all = c.loop-place.invariant.0 ∙ take_all c.loop-place.place c.args.choices.now c.loop-place-test.false ∙ c.requires.choices in
    stand_apart c.args.state.now c.args.answers.now c.loop-place.standings.items c.requires.clean all c.loop-place.invariant.1
