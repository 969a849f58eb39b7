use Rattle.std.proofs.Common.{◌≡◌, ℕ, ◌<◌, true, length}
use Rattle.count_core.specs.Assignments.{value_of}
use Rattle.pairing_draw.specs.Encoding.{atom_of}
use Rattle.pairing_draw.proofs.decoding.winner_of.Given as goal

-- the atoms of the winners so far are not true
abbrev pub invariant-loop-place : goal.invariant-loop-place
invariant-loop-place l = (w : ℕ) → w < l.place → ¬ (value_of l.values (atom_of (length l.winners) l.runner w) ≡ true)
