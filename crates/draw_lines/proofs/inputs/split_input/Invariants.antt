use Rattle.std.proofs.Common.{◌≡◌, ◌+◌, ◌++◌, take, length}
use Rattle.draw_lines.specs.Inputs.{pieces, head_of, before_separator, after_separator, joined}
use Rattle.draw_lines.proofs.inputs.split_input.Given as goal

-- what was passed is part of the head
abbrev pub invariant-loop-piece : goal.invariant-loop-piece
invariant-loop-piece l = record {
  left : take l.at l.bytes ++ l.rest ≡ l.bytes;
  size : l.at + length l.rest ≡ length l.bytes;
  head : take l.at l.bytes ++ joined (before_separator (pieces l.rest)) ≡ head_of l.bytes;
  after : after_separator (pieces l.rest) ≡ after_separator (pieces l.bytes);
}

abbrev pub decreases-loop-piece : goal.decreases-loop-piece
decreases-loop-piece l = length l.rest
