use Rattle.draw_lines.proofs.FirstPiece.{cut_here}
use Rattle.draw_lines.proofs.inputs.first_piece.Goals as goal

pub returns-then-byte-eq10-clause-pieces : goal.returns-then-byte-eq10-clause-pieces
returns-then-byte-eq10-clause-pieces c = cut_here c.args.bytes.now c.split_at.result.0.now c.split_at.result.1.now c.loop-i.i c.loop-i-test.true c.if-byte-eq10.true c.split_at.ensures.front c.split_at.ensures.back c.loop-i.invariant
