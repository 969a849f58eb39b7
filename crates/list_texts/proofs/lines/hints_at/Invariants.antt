use Rattle.std.proofs.Common.{◌≤◌, length}
use Rattle.list_texts.specs.ListTexts.{hint_text, FitsHint}
use Rattle.list_texts.specs.Fronts.{EndsNumber, SomeInFront}
use Rattle.list_texts.proofs.lines.hints_at.Given as goal

-- those so far stand in front of the text, and what is left follows
abbrev pub invariant-loop-hint : goal.invariant-loop-hint
invariant-loop-hint l = record {
  some : SomeInFront hint_text FitsHint EndsNumber l.text l.hints.items l.left;
  no_longer : length l.left ≤ length l.text;
}

abbrev pub decreases-loop-hint : goal.decreases-loop-hint
decreases-loop-hint l = length l.left
