use Rattle.draw_lines.proofs.PiecesAndSeparator.{head_before_separator}
use Rattle.draw_lines.proofs.inputs.law_head_before_separator.Goals as goal

pub returns : goal.returns
returns c = head_before_separator
