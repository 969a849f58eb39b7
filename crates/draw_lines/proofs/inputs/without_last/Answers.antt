use Rattle.draw_lines.proofs.FirstPiece.{last_falls, last_stays}
use Rattle.draw_lines.proofs.inputs.without_last.Goals as goal

pub returns-in-Some : goal.returns-in-Some
returns-in-Some c = last_falls c.args.byte c.in-Some.last.now c.in-Some.front.now c.args.bytes.now c.in-Some.ensures.cases.0 c.if-last-byte.true

pub returns-in_default : goal.returns-in_default
returns-in_default c = last_stays c.args.byte c.in-Some.last.now c.in-Some.front.now c.args.bytes.now c.in-Some.ensures.cases.0 c.if-last-byte.false
