use Rattle.std.proofs.Common.{◌≡◌, ◌+◌, ◌≤◌, ◌++◌, List, length, map}
use Rattle.draw_state.specs.Runs.{Reached, IsRun}
use Rattle.draw_lines.specs.Inputs.{lines_of}
use Rattle.draw_lines.specs.Words.{command_of}
use Rattle.draw_lines.specs.Answers.{replies_text, IsAnswer}
use Rattle.draw_top.proofs.answering.answer_text.Given as goal

-- the replies to the lines that are left, put after what was written, make the answer text
abbrev pub invariant-loop-line : goal.invariant-loop-line
invariant-loop-line l = record {
  file : l.turn.file ≡ l.fn.file;
  count : l.answered + length l.left ≤ length l.commands;
  so_far : (rest : List Reached)
      → IsRun l.fn.file l.turn.moves l.answered (map command_of (lines_of l.left)) rest
      → IsAnswer l.fn.file (lines_of l.commands) (l.text.items ++ replies_text l.fn.file rest);
}

abbrev pub decreases-loop-line : goal.decreases-loop-line
decreases-loop-line l = length l.left
