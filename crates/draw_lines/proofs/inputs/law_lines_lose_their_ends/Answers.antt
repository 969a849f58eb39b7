use Rattle.draw_lines.proofs.FirstPiece.{lines_lose_their_ends}
use Rattle.draw_lines.proofs.inputs.law_lines_lose_their_ends.Goals as goal

pub returns : goal.returns
returns c = lines_lose_their_ends
