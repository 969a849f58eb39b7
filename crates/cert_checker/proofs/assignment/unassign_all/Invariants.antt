use Rattle.std.proofs.Common.{◌≡◌, drop}
use Rattle.count_core.specs.Trails.{unassign_all}
use Rattle.cert_checker.proofs.assignment.unassign_all.Given as goal

-- what is left to unset leads to the same values
abbrev pub invariant-loop-atom : goal.invariant-loop-atom
invariant-loop-atom l = unassign_all (drop l.atom-index l.atoms) l.values ≡ unassign_all l.atoms l.fn.values
