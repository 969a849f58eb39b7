use Rattle.std.proofs.Common.{◌≡◌, ◌++◌, drop, map}
use Rattle.refutations.specs.EarlierSteps.{by_place}
use Rattle.refutations.proofs.cone.placed_hints.Given as goal

-- the copies, and then those left
abbrev pub invariant-loop-hint : goal.invariant-loop-hint
invariant-loop-hint l = l.copies.items ++ map (by_place l.places) (drop l.hint-index l.hints) ≡ map (by_place l.places) l.hints
