use Rattle.std.proofs.Common.{◌≡◌, ◌<◌, ℕ, slice_get, Some, None}
use Rattle.serial_search.proofs.picking.free_literal.Given as goal

abbrev pub invariant-loop-atom : goal.invariant-loop-atom
invariant-loop-atom l = (k : ℕ) → k < l.atom → slice_get l.values k ≡ Some None → ⊥
