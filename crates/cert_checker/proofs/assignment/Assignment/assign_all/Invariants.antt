use Rattle.std.proofs.Common.{◌≡◌, drop}
use Rattle.count_core.specs.PartialAssignments.{assign_all}
use Rattle.cert_checker.proofs.assignment.Assignment.assign_all.Given as goal

-- what is left to assign leads to the same values
abbrev pub invariant-loop-lit : goal.invariant-loop-lit
invariant-loop-lit l = assign_all l.truth (drop l.lit-index l.lits) l.self ≡ assign_all l.truth l.lits l.fn.self
