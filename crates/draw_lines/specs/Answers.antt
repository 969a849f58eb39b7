-- The answer text of an input: the opening, and the reply to each command line.
use Rattle.std.specs.Prelude.{◌≡◌, ℕ, List, [], ◌∷◌, ◌++◌, map}
use Rattle.rule_sets.specs.Files.{DrawFile}
use Rattle.draw_state.specs.declared.replies.NextLine.{NextLine}
use Rattle.draw_state.specs.Runs.{Reached, IsNextLine, IsRun}
use Rattle.draw_lines.specs.Words.{command_of}
use Rattle.draw_lines.specs.Texts.{opening_text, reply_text}

-- the replies' lines, one after another
abbrev pub replies_text : DrawFile → List Reached → List ℕ
replies_text file [] = []
replies_text file (x ∷ xs) = reply_text file x.reply ++ replies_text file xs

-- The text is the opening and the replies of the run over these command lines, from the state without moves.
pub record IsAnswerWith (file : DrawFile) (lines : List (List ℕ)) (text : List ℕ) (next : NextLine) (run : List Reached) : Type 0 where
  pub opens : IsNextLine file [] next
  pub runs : IsRun file [] 0 (map command_of lines) run
  pub whole : text ≡ opening_text file next ++ replies_text file run

-- The answer text of the file and the command lines.
abbrev pub IsAnswer : DrawFile → List (List ℕ) → List ℕ → Type 0
IsAnswer file lines text = (next : NextLine) × (run : List Reached) × IsAnswerWith file lines text next run
