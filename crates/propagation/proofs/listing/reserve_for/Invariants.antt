use Rattle.std.proofs.Common.{take}
use Rattle.propagation.specs.Occurrences.{HaveSameItems, HaveRoomFor}
use Rattle.propagation.proofs.listing.reserve_for.Given as goal

-- there is room at the first literals' atoms
abbrev pub invariant-loop-lit : goal.invariant-loop-lit
invariant-loop-lit l = record {
  items : HaveSameItems l.fn.lists l.lists;
  room : HaveRoomFor l.lists (take l.lit-index l.lits);
}
