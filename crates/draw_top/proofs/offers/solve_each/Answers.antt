use Rattle.std.proofs.Common.{◌++◌, [], ◌∷◌, take, sym, ap, ◌∙◌}
use Rattle.std.proofs.lemmas.List.{take_more, map_push}
use Rattle.serial_search.specs.Answers.{Answering}
use Rattle.draw_top.proofs.TurnSteps.{answers_push}
use Rattle.draw_top.proofs.offers.solve_each.Goals as goal

pub loop-question-preserved : goal.loop-question-preserved
loop-question-preserved c =
    let i = c.loop-question.question-index in
    let before = c.loop-question.invariant in
    let answer = c.in_ok-solve.field-0 in
    rw c.in_ok-push.ensures.items (record {
      problem = c.in_ok-solve.ensures.kept ∙ before.problem;
      answers = answers_push c.args.session.now.problem c.loop-question.answers.items answer before.answers (c.in_ok-solve.ensures.problem ∙ before.problem);
      asked = map_push (λ (a : Answering). a.question) c.loop-question.answers.items answer
          ∙ ap (λ qs. qs ++ answer.question ∷ []) before.asked
          ∙ ap (λ q. take i c.args.wanted.now ++ q ∷ []) (c.in_ok-solve.ensures.question ∙ c.question-item.is)
          ∙ sym (take_more c.args.wanted.now i c.question-item.result c.loop-question-test.true);
    })
