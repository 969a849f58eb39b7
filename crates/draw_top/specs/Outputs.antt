-- What is written for an input.
use Rattle.std.specs.Prelude.{List, ℕ}
use Rattle.draw_top.specs.declared.following.Output.{Output}
use Rattle.draw_top.specs.declared.following.Output.TheVariants.{Answer, Refusal}
use Rattle.draw_top.specs.Follow.{IsAnswerOf, IsRefusalOf}

-- the output is the answer text of the input, or the line of the first fault of its head
abbrev pub IsOutputOf : List ℕ → Output → Type 0
IsOutputOf input (Answer text) = IsAnswerOf input text.items
IsOutputOf input (Refusal line) = IsRefusalOf input line.items
