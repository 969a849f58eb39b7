use Rattle.std.proofs.Common.{◌≡◌, ℕ, drop}
use Rattle.std.specs.Prelude.{◌||◌}
use Rattle.std.specs.List.{list_any}
use Rattle.refutations.specs.Cones.{is_in, is_to}
use Rattle.refutations.proofs.cone.mark_named.Given as goal

-- with those left, the same numbers are marked
abbrev pub invariant-loop-hint : goal.invariant-loop-hint
invariant-loop-hint l = (n : ℕ) → (is_in l.marks n || list_any (is_to n) (drop l.hint-index l.hints)) ≡ (is_in l.fn.marks n || list_any (is_to n) l.hints)
