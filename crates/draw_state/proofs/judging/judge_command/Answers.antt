use Rattle.std.proofs.Common.{rules, arith, ◌≡◌, ◌≢◌, ◌<◌, Some, sym, ◌∙◌}
use Rattle.draw_tables.specs.declared.moves.Phase.{Phase}
use Rattle.draw_tables.specs.Lists.{IsAmong}
use Rattle.draw_tables.specs.States.{phase_of, candidates}
use Rattle.draw_tables.proofs.OfferLaws.{offered_where_possible}
use Rattle.draw_state.specs.Commands.{choice_of, most_commands}
use Rattle.draw_state.proofs.Refusals.{for_excluded, accepted}
use Rattle.draw_state.proofs.judging.judge_command.Goals as goal

pub returns-then-not-has_choice-clause-refused : goal.returns-then-not-has_choice-clause-refused
returns-then-not-has_choice-clause-refused c =
    let file = c.args.state.now.file in
    let moves = c.args.state.now.moves in
    let below : c.args.answered < most_commands = omega arith in
    let names : choice_of file c.in-Ball.word ≡ Some c.in-Some.choice = rw c.file.ensures.file at (sym c.choice_of.ensures ∙ c.in-Some.is) in
    let goes_on : phase_of file moves ≢ Phase.Complete = search rules in
    let candidate : IsAmong (candidates file moves) c.in-Some.choice = rw (c.file-2.ensures.file, c.moves.ensures) at (c.is_candidate.ensures.0 c.if-not-is_candidate.false) in
    for_excluded file moves c.args.answered c.args.command below c.in-Ball.word c.in-Ball.is c.in-Some.choice names goes_on candidate
    (λ possible. let among = c.has_choice.ensures.1 ((offered_where_possible file moves c.args.offered.now c.in-Some.choice c.requires).1 possible) in let none = c.if-not-has_choice.true in cc)

pub returns-clause-accepted : goal.returns-clause-accepted
returns-clause-accepted c =
    let file = c.args.state.now.file in
    let moves = c.args.state.now.moves in
    let below : c.args.answered < most_commands = omega arith in
    let names : choice_of file c.in-Ball.word ≡ Some c.in-Some.choice = rw c.file.ensures.file at (sym c.choice_of.ensures ∙ c.in-Some.is) in
    let goes_on : phase_of file moves ≢ Phase.Complete = search rules in
    let candidate : IsAmong (candidates file moves) c.in-Some.choice = rw (c.file-2.ensures.file, c.moves.ensures) at (c.is_candidate.ensures.0 c.if-not-is_candidate.false) in
    accepted file moves c.args.answered c.args.command below c.in-Ball.word c.in-Ball.is c.in-Some.choice names goes_on candidate
    ((offered_where_possible file moves c.args.offered.now c.in-Some.choice c.requires).0 (c.has_choice.ensures.0 c.if-not-has_choice.false))
