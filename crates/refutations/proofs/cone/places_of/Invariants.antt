use Rattle.std.proofs.Common.{◌≡◌, ◌≤◌, ◌<◌, ℕ, vec_len, get_or}
use Rattle.refutations.specs.Cones.{number_below}
use Rattle.refutations.proofs.cone.places_of.Given as goal

-- the places so far, and the number of those marked so far
abbrev pub invariant-loop-mark : goal.invariant-loop-mark
invariant-loop-mark l = record {
  count : l.count ≡ number_below l.marks l.mark-index;
  few : l.count ≤ l.mark-index;
  all : vec_len l.places ≡ l.mark-index;
  each : (n : ℕ) → n < l.mark-index → get_or l.places.items n 0 ≡ number_below l.marks n;
}
