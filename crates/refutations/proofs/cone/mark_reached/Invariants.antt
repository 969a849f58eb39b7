use Rattle.std.proofs.Common.{◌≤◌, ◌+◌}
use Rattle.refutations.proofs.Marking.{IsMarked}
use Rattle.refutations.proofs.cone.mark_reached.Given as goal

-- the steps from here on are done
abbrev pub invariant-loop-left : goal.invariant-loop-left
invariant-loop-left l = record {
  marked : IsMarked l.steps l.from l.marks l.left;
  within : l.left ≤ l.from + 1;
}

abbrev pub decreases-loop-left : goal.decreases-loop-left
decreases-loop-left l = l.left
