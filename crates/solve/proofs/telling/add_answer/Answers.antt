use Rattle.std.proofs.Common.{sym, ◌∙◌, subst}
use Rattle.serial_search.specs.Answers.{IsRight}
use Rattle.solve.proofs.Told.{impossible_told}
use Rattle.solve.proofs.telling.add_answer.Goals as goal

pub returns-in-Impossible : goal.returns-in-Impossible
returns-in-Impossible c =
    let answer = c.args.answer.now in
    let right = subst (IsRight answer.problem answer.question) (sym c.outcome.ensures.outcome ∙ c.in-Impossible.is) c.outcome.ensures.right in
    impossible_told c.add_impossible.result answer.problem answer.question c.in-Impossible.closed c.steps.result.now c.args.text.now.items c.add_impossible.new.text.items
    right c.question-fails.ensures.fails c.steps.ensures.steps c.add_impossible.ensures
