use Rattle.std.proofs.Common.{◌≡◌, drop, length, false}
use Rattle.count_core.specs.PartialAssignments.{assign_all}
use Rattle.count_core.proofs.AssumedNegations.{meets_set}
use Rattle.refutations.proofs.hint_check.assume_negation.Given as goal

-- those left decide, and lead to the same values
abbrev pub invariant-loop-lit : goal.invariant-loop-lit
invariant-loop-lit l = record {
  rest : meets_set false l.assignment (drop l.lit-index l.clause) ≡ meets_set false l.fn.assignment l.clause;
  assumed : assign_all false (drop l.lit-index l.clause) l.assignment ≡ assign_all false l.clause l.fn.assignment;
  atoms : length l.assignment ≡ length l.fn.assignment;
}
