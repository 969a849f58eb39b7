use Rattle.std.proofs.Common.{length, refl}
use Rattle.std.proofs.lemmas.Option.{slice_get_read}
use Rattle.offer_engine.proofs.Standings.{draws_alike, draws_right, many_answers, only_answer, stand_alike}
use Rattle.offer_engine.proofs.answering.standings_alike.Goals as goal

pub standing_of-requires-clause-problem : goal.standing_of-requires-clause-problem
standing_of-requires-clause-problem c =
    c.requires.problem c.index-answers-0.result
    (0, slice_get_read c.args.answers.now (length c.args.answers.now) 0 c.index-answers-0.result refl (many_answers c.args.answers.now _ c.requires.asked) c.index-answers-0.is)

pub returns : goal.returns
returns c =
    let state = c.args.state.now in
    let there = slice_get_read c.args.answers.now (length c.args.answers.now) 0 c.index-answers-0.result refl (many_answers c.args.answers.now _ c.requires.asked) c.index-answers-0.is in
    let question = only_answer c.args.answers.now c.index-answers-0.result _ c.requires.asked there in
    let common = c.in_ok-common.common in
    rw (c.in_ok-standings.ensures, c.requires.choices)
    (stand_alike state c.args.answers.now c.index-answers-0.result c.requires.clean (draws_alike state.file state.moves c.requires.phase) (0, there) question
    common (draws_right state.file state.moves c.requires.phase common c.in_ok-common.ensures.shows) c.in_ok-common.ensures.comes)
