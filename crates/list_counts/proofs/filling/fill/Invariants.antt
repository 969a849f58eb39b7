use Rattle.std.proofs.Common.{◌≡◌, ◌≤◌, ◌++◌, drop}
use Rattle.list_counts.specs.Filling.{fill}
use Rattle.list_counts.proofs.filling.fill.Given as goal

-- the positions so far, and those of the wishes left with what is free then, are all
abbrev pub invariant-loop-wish : goal.invariant-loop-wish
invariant-loop-wish l = record {
  positions : l.positions.items ++ fill (drop l.next l.free) (drop l.wish-index l.wishes) ≡ fill l.free l.wishes;
  next : l.next ≤ l.wish-index;
}
