use Rattle.std.proofs.Common.{◌<◌, ◌^◌, length, arith}
use Rattle.offer_engine.proofs.FewMoves.{few_moves}
use Rattle.offer_engine.proofs.turn.number_of_moves.Goals as goal

pub overflow_cast-result : goal.overflow_cast-result
overflow_cast-result c =
    let form = c.law_files_have_form.ensures c.args.state.now.file (rw c.file.ensures.file at c.kind.ensures.formed) in
    let few : length c.args.state.now.moves < 2 ^ 32 = few_moves c.args.state.now.file c.args.state.now.moves form c.file.ensures.state in
    rw c.moves.ensures (omega arith)
