use Rattle.std.proofs.Common.{◌≡◌, ◌++◌, drop}
use Rattle.refutations.specs.Cones.{sublist}
use Rattle.refutations.proofs.cone.sublist.Given as goal

-- those kept, and then those left
abbrev pub invariant-loop-i : goal.invariant-loop-i
invariant-loop-i l = l.kept.items ++ sublist l.marks (drop l.i l.marks) (drop l.i l.steps) ≡ sublist l.marks l.marks l.steps
