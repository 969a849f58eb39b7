use Rattle.std.proofs.Common.{◌≡◌, drop, length, false}
use Rattle.count_core.specs.PartialAssignments.{assign_all}
use Rattle.cert_checker.proofs.Clauses.{are_free}
use Rattle.cert_checker.proofs.assignment.Assignment.assume_negation.Given as goal

-- the literals left decide, and lead to the same values
abbrev pub invariant-loop-lit : goal.invariant-loop-lit
invariant-loop-lit l = record {
  rest : are_free l.self (drop l.lit-index l.clause) ≡ are_free l.fn.self l.clause;
  assumed : assign_all false (drop l.lit-index l.clause) l.self ≡ assign_all false l.clause l.fn.self;
  len : length l.self ≡ length l.fn.self;
}
