use Rattle.std.proofs.Common.{◌≡◌, ◌+◌, ℕ, Bool, false, drop}
use Rattle.std.specs.Prelude.{◌==◌}
use Rattle.count_core.specs.Problems.{repeats}
use Rattle.propagation.specs.Occurrences.{IsAppended, HaveRoomFor, items_at, number_if, number_listed}
use Rattle.propagation.proofs.listing.enter.Given as goal

-- what is listed and what is left make all
abbrev pub invariant-loop-lit : goal.invariant-loop-lit
invariant-loop-lit l = record {
  numbers : (b : Bool) (n a : ℕ) → number_listed b n (items_at l.lists a) + number_if (l.number == n) b a (drop l.lit-index l.lits) ≡ number_listed b n (items_at l.fn.lists a) + number_if (l.number == n) b a l.lits;
  distinct : repeats (drop l.lit-index l.lits) ≡ false;
  room : HaveRoomFor l.lists (drop l.lit-index l.lits);
  appended : (a : ℕ) → IsAppended l.number (items_at l.fn.lists a) (items_at l.lists a);
}
