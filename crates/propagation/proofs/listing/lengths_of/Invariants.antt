use Rattle.std.proofs.Common.{◌≡◌, ◌<◌, ℕ, length}
use Rattle.propagation.specs.Occurrences.{counter, items_at}
use Rattle.propagation.proofs.listing.lengths_of.Given as goal

-- the first atoms' lengths
abbrev pub invariant-loop-atom : goal.invariant-loop-atom
invariant-loop-atom l = record {
  number : length l.lengths.items ≡ l.atom;
  each : (a : ℕ) → a < l.atom → counter l.lengths.items a ≡ length (items_at l.lists a);
}
