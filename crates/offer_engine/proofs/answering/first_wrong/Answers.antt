use Rattle.std.proofs.Common.{◌≤◌, length, arith}
use Rattle.std.proofs.lemmas.List.{length-map}
use Rattle.serial_search.specs.Answers.{Answering}
use Rattle.offer_engine.specs.Questions.{asked}
use Rattle.offer_engine.proofs.StateQuestions.{same_as}
use Rattle.offer_engine.proofs.answering.first_wrong.Goals as goal

pub returns : goal.returns
returns c =
    let few = length-map c.args.answers.now (λ (a : Answering). a.question) in
    let le : length (asked c.args.answers.now) ≤ length c.args.wanted.now = omega arith in
    same_as (asked c.args.answers.now) c.args.wanted.now le (λ k lt. c.loop-place.invariant k (omega arith))
