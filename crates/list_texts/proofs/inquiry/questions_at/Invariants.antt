use Rattle.std.proofs.Common.{◌+◌, ◌≤◌, length}
use Rattle.list_texts.specs.ListTexts.{question_line, FitsQuestion}
use Rattle.list_texts.specs.Fronts.{EndsLine, SomeInFront}
use Rattle.list_texts.proofs.inquiry.questions_at.Given as goal

-- those so far stand in front of the text, and what is left follows
abbrev pub invariant-loop-questions : goal.invariant-loop-questions
invariant-loop-questions l = record {
  some : SomeInFront question_line FitsQuestion EndsLine l.text l.questions.items l.left;
  many : length l.questions.items + length l.left ≤ length l.text;
}

abbrev pub decreases-loop-questions : goal.decreases-loop-questions
decreases-loop-questions l = length l.left
