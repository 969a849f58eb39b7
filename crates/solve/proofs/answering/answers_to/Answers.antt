use Rattle.std.proofs.Common.{◌∙◌, subst, drop}
use Rattle.std.proofs.lemmas.List.{drop_all}
use Rattle.solve.specs.Answers.{Grows, IsAnswerTo, AreAnswersTo}
use Rattle.solve.proofs.MoreAnswers.{goes_on, ends}
use Rattle.solve.proofs.answering.answers_to.Goals as goal

pub loop-lits-preserved : goal.loop-lits-preserved
loop-lits-preserved c =
    let problem = c.in_ok-session.session.problem in
    let text = c.loop-lits.text.items in
    let more = c.ask.new.text.items in
    let question = c.lits-item.result in
    let grown = subst (λ p. Grows (IsAnswerTo p question) text more) c.loop-lits.invariant.kept c.in_ok-ask.ensures.answer in
    record {
      kept = c.in_ok-ask.ensures.kept ∙ c.loop-lits.invariant.kept;
      so_far = goes_on problem c.args.questions.now text more c.loop-lits.lits-index question c.loop-lits.invariant.so_far c.loop-lits-test.true c.lits-item.is grown;
    }

pub returns : goal.returns
returns c =
    let all = c.args.questions.now in
    let i = c.loop-lits.lits-index in
    let text = c.loop-lits.text.items in
    let whole = ends c.in_ok-session.session.problem all text (drop i all) (drop_all i all c.loop-lits-test.false) c.loop-lits.invariant.so_far in
    subst (λ p. AreAnswersTo p all text) c.in_ok-session.ensures whole
