use Rattle.std.proofs.Common.{◌+◌, ◌≤◌, length}
use Rattle.list_texts.specs.ListTexts.{rule_line, FitsRule}
use Rattle.list_texts.specs.Fronts.{EndsLine, SomeInFront}
use Rattle.list_texts.proofs.listing.rules_at.Given as goal

-- those so far stand in front of the text, and what is left follows
abbrev pub invariant-loop-rules : goal.invariant-loop-rules
invariant-loop-rules l = record {
  some : SomeInFront rule_line FitsRule EndsLine l.text l.rules.items l.left;
  many : length l.rules.items + length l.left ≤ length l.text;
}

abbrev pub decreases-loop-rules : goal.decreases-loop-rules
decreases-loop-rules l = length l.left
