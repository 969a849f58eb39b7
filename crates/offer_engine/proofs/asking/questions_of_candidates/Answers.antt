use Rattle.std.proofs.Common.{arith}
use Rattle.std.proofs.lemmas.List.{length-map}
use Rattle.draw_tables.specs.States.{candidates}
use Rattle.offer_engine.specs.Questions.{question_of}
use Rattle.offer_engine.proofs.FewMoves.{few_candidates}
use Rattle.offer_engine.proofs.asking.questions_of_candidates.Goals as goal

pub returns-clause-few : goal.returns-clause-few
returns-clause-few c =
    let file = c.args.state.now.file in
    let ms = c.args.state.now.moves in
    let form = c.law_files_have_form.ensures file (rw c.file.ensures.file at c.kind.ensures.formed) in
    let few = few_candidates file ms form in
    let many = length-map (candidates file ms) (question_of file ms) in
    rw (c.in_ok-asked.ensures.questions, c.deref.ensures.value, c.in_ok-choices.ensures.candidates) (omega arith)
