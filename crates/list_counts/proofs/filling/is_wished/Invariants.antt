use Rattle.std.proofs.Common.{◌≡◌, drop}
use Rattle.list_counts.specs.Filling.{is_wished}
use Rattle.list_counts.proofs.filling.is_wished.Given as goal

-- the wishes left decide
abbrev pub invariant-loop-wish : goal.invariant-loop-wish
invariant-loop-wish l = is_wished (drop l.wish-index l.wishes) l.position ≡ is_wished l.wishes l.position
