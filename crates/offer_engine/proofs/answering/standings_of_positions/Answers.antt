use Rattle.std.proofs.Common.{◌≡◌, length, refl, sym, ap, ◌∙◌, subst}
use Rattle.std.specs.List.{AllByRecursion as Each}
use Rattle.std.proofs.lemmas.Option.{slice_get_read}
use Rattle.rule_sets.specs.Files.{IsWellFormed}
use Rattle.serial_search.specs.declared.outcome.Outcome.TheVariants.{Possible, Impossible}
use Rattle.offer_engine.specs.declared.standing.Standing.TheVariants.{Excluded}
use Rattle.offer_engine.specs.Encodings.{lits_of, rules_of}
use Rattle.offer_engine.proofs.Standings.{Comes, answer_excludes, answer_values, many_answers, only_answer, positions_alike, positions_excluded, stand_alike, stand_each, values_complete}
use Rattle.offer_engine.proofs.answering.standings_of_positions.Goals as goal

pub stand_positions-requires-clause-rules : goal.stand_positions-requires-clause-rules
stand_positions-requires-clause-rules c =
    let state = c.args.state.now in
    let answer = c.index-answers-0.result in
    let there = slice_get_read c.args.answers.now (length c.args.answers.now) 0 answer refl (many_answers c.args.answers.now _ c.requires.asked) c.index-answers-0.is in
    let asks = only_answer c.args.answers.now answer _ c.requires.asked there in
    let is : answer.outcome ≡ Possible c.in-Possible.values = sym c.outcome.ensures.outcome ∙ c.in-Possible.is in
    rw c.as_slice.ensures (answer_values answer c.in-Possible.values (rules_of state.file) (lits_of state.file state.moves) c.outcome.ensures.right is (c.requires.problem answer (0, there)) asks).0

pub stand_positions-requires-clause-moves : goal.stand_positions-requires-clause-moves
stand_positions-requires-clause-moves c =
    let state = c.args.state.now in
    let answer = c.index-answers-0.result in
    let there = slice_get_read c.args.answers.now (length c.args.answers.now) 0 answer refl (many_answers c.args.answers.now _ c.requires.asked) c.index-answers-0.is in
    let asks = only_answer c.args.answers.now answer _ c.requires.asked there in
    let is : answer.outcome ≡ Possible c.in-Possible.values = sym c.outcome.ensures.outcome ∙ c.in-Possible.is in
    rw c.as_slice.ensures (answer_values answer c.in-Possible.values (rules_of state.file) (lits_of state.file state.moves) c.outcome.ensures.right is (c.requires.problem answer (0, there)) asks).1

pub stand_positions-requires-clause-completable : goal.stand_positions-requires-clause-completable
stand_positions-requires-clause-completable c =
    let state = c.args.state.now in
    let answer = c.index-answers-0.result in
    let there = slice_get_read c.args.answers.now (length c.args.answers.now) 0 answer refl (many_answers c.args.answers.now _ c.requires.asked) c.index-answers-0.is in
    let asks = only_answer c.args.answers.now answer _ c.requires.asked there in
    let is : answer.outcome ≡ Possible c.in-Possible.values = sym c.outcome.ensures.outcome ∙ c.in-Possible.is in
    let both = answer_values answer c.in-Possible.values (rules_of state.file) (lits_of state.file state.moves) c.outcome.ensures.right is (c.requires.problem answer (0, there)) asks in
    let formed : IsWellFormed state.file = rw c.file.ensures.file at c.kind.ensures.formed in
    values_complete state.file state.moves c.args.team c.requires.phase c.law_values_complete.ensures formed c.file.ensures.state c.requires.clean c.in-Possible.values both.0 both.1

pub returns-in_ok-standings-in-Possible : goal.returns-in_ok-standings-in-Possible
returns-in_ok-standings-in-Possible c =
    let state = c.args.state.now in
    let answer = c.index-answers-0.result in
    let there = slice_get_read c.args.answers.now (length c.args.answers.now) 0 answer refl (many_answers c.args.answers.now _ c.requires.asked) c.index-answers-0.is in
    let asks = only_answer c.args.answers.now answer _ c.requires.asked there in
    let is : Possible c.as_slice.result.now ≡ answer.outcome = ap Possible c.as_slice.ensures ∙ sym c.in-Possible.is ∙ c.outcome.ensures.outcome in
    let stand = c.in_ok-standings-in-Possible in
    stand_each state c.args.answers.now answer c.requires.clean (positions_alike state.file state.moves c.args.team c.requires.phase) (0, there) asks
    stand.standings.items (stand.ensures.choices ∙ c.requires.choices) stand.ensures.right (subst (λ o. Each (Comes o) stand.standings.items) is stand.ensures.comes)

pub returns-in_ok-standings-in-Impossible : goal.returns-in_ok-standings-in-Impossible
returns-in_ok-standings-in-Impossible c =
    let state = c.args.state.now in
    let answer = c.index-answers-0.result in
    let closed = c.in-Impossible.closed in
    let there = slice_get_read c.args.answers.now (length c.args.answers.now) 0 answer refl (many_answers c.args.answers.now _ c.requires.asked) c.index-answers-0.is in
    let asks = only_answer c.args.answers.now answer _ c.requires.asked there in
    let is : answer.outcome ≡ Impossible closed = sym c.outcome.ensures.outcome ∙ c.in-Impossible.is in
    let excluded = answer_excludes state.file state.moves answer closed c.outcome.ensures.right is (c.requires.problem answer (0, there)) asks in
    rw (c.in_ok-standings-in-Impossible.ensures, c.in_ok-clone_in-in-Impossible.ensures, c.requires.choices)
    (stand_alike state c.args.answers.now answer c.requires.clean (positions_alike state.file state.moves c.args.team c.requires.phase) (0, there) asks
    (Excluded closed) (positions_excluded state.file state.moves c.args.team c.requires.phase closed excluded) is)
