use Rattle.std.proofs.Common.{◌≡◌, ◌++◌, drop, map}
use Rattle.refutations.specs.Shifts.{shifted_hint}
use Rattle.refutations.proofs.shift.shifted_hints.Given as goal

-- the copies, and then those left
abbrev pub invariant-loop-hint : goal.invariant-loop-hint
invariant-loop-hint l = l.copies.items ++ map (shifted_hint l.shift) (drop l.hint-index l.hints) ≡ map (shifted_hint l.shift) l.hints
