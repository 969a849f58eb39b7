use Rattle.draw_lines.proofs.LastMove.{last_is_named, ball_text_is, told_of_file}
use Rattle.draw_lines.proofs.texts.add_ball.Goals as goal

pub add_move-requires-clause-of_file : goal.add_move-requires-clause-of_file
add_move-requires-clause-of_file c = last_is_named c.args.file.now c.args.moves.now _ c.in-Some.last.now c.in-Some.ensures.cases.0 c.requires.moves

pub add_move-requires-clause-told : goal.add_move-requires-clause-told
add_move-requires-clause-told c = told_of_file c.args.file.now c.args.moves.now c.args.told c.requires.told

pub returns : goal.returns
returns c = rw (ball_text_is c.args.file.now c.args.told c.args.moves.now _ c.in-Some.last.now c.in-Some.ensures.cases.0) c.add_move.ensures
