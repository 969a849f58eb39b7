use Rattle.std.proofs.Common.{◌≡◌, ◌∙◌}
use Rattle.serial_search.specs.Answers.{Answering}
use Rattle.offer_engine.proofs.StateQuestions.{among_push}
use Rattle.offer_engine.proofs.tests.solve_each.Goals as goal

pub loop-question-preserved : goal.loop-question-preserved
loop-question-preserved c =
    let problem = c.in_ok-solve.ensures.problem ∙ c.loop-question.invariant.0 in
    rw c.in_ok-push.ensures.items (
      c.in_ok-solve.ensures.kept ∙ c.loop-question.invariant.0,
      among_push (λ (a : Answering). a.problem ≡ c.args.session.now.problem) c.loop-question.answers.items c.in_ok-solve.field-0 c.loop-question.invariant.1 problem,
    )
