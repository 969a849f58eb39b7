use Rattle.std.proofs.Common.{◌≡◌, drop}
use Rattle.count_core.specs.PartialAssignments.{assign_all}
use Rattle.refutations.proofs.hint_check.assign_all.Given as goal

-- those left lead to the same values
abbrev pub invariant-loop-lit : goal.invariant-loop-lit
invariant-loop-lit l = assign_all l.truth (drop l.lit-index l.lits) l.assignment ≡ assign_all l.truth l.lits l.fn.assignment
