use Rattle.std.proofs.Common.{◌≡◌, drop, take}
use Rattle.draw_lines.specs.Inputs.{pieces, pieces_after}
use Rattle.draw_lines.proofs.inputs.first_piece.Given as goal

-- the bytes so far have no line feed
abbrev pub invariant-loop-i : goal.invariant-loop-i
invariant-loop-i l = pieces_after (take l.i l.bytes) (drop l.i l.bytes) ≡ pieces l.bytes
