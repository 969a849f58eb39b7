use Rattle.std.proofs.Common.{◌≡◌, ℕ, length}
use Rattle.propagation.specs.Occurrences.{IsEmptyAt}
use Rattle.propagation.proofs.listing.empty_lists.Given as goal

abbrev pub invariant-loop-atom : goal.invariant-loop-atom
invariant-loop-atom l = record {
  atoms : length l.lists.items ≡ l.atom;
  empty : (a : ℕ) → IsEmptyAt l.lists.items a;
}
