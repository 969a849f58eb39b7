use Rattle.std.proofs.Common.{◌+◌, ◌≤◌, length}
use Rattle.list_texts.specs.ListTexts.{step_line, FitsStep}
use Rattle.list_texts.specs.Fronts.{EndsLine, SomeInFront}
use Rattle.list_texts.proofs.listing.steps_at.Given as goal

-- those so far stand in front of the text, and what is left follows
abbrev pub invariant-loop-steps : goal.invariant-loop-steps
invariant-loop-steps l = record {
  some : SomeInFront step_line FitsStep EndsLine l.text l.steps.items l.left;
  many : length l.steps.items + length l.left ≤ length l.text;
}

abbrev pub decreases-loop-steps : goal.decreases-loop-steps
decreases-loop-steps l = length l.left
