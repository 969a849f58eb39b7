use Rattle.std.proofs.Common.{◌≡◌, drop}
use Rattle.count_core.specs.Trails.{unassign_all}
use Rattle.refutations.proofs.assignment.unassign_all.Given as goal

-- unsetting those left leads to the same values
abbrev pub invariant-loop-atom : goal.invariant-loop-atom
invariant-loop-atom l = unassign_all (drop l.atom-index l.trail) l.values ≡ unassign_all l.trail l.fn.values
