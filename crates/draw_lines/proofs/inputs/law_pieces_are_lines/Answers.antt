use Rattle.draw_lines.proofs.PiecesAndSeparator.{pieces_are_lines}
use Rattle.draw_lines.proofs.inputs.law_pieces_are_lines.Goals as goal

pub returns : goal.returns
returns c = pieces_are_lines
