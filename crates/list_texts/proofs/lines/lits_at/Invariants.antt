use Rattle.std.proofs.Common.{◌≤◌, length}
use Rattle.list_texts.specs.ListTexts.{lit_text, FitsLit}
use Rattle.list_texts.specs.Fronts.{EndsNumber, SomeInFront}
use Rattle.list_texts.proofs.lines.lits_at.Given as goal

-- those so far stand in front of the text, and what is left follows
abbrev pub invariant-loop-lit : goal.invariant-loop-lit
invariant-loop-lit l = record {
  some : SomeInFront lit_text FitsLit EndsNumber l.text l.lits.items l.left;
  no_longer : length l.left ≤ length l.text;
}

abbrev pub decreases-loop-lit : goal.decreases-loop-lit
decreases-loop-lit l = length l.left
