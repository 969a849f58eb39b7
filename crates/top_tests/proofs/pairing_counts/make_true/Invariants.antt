use Rattle.std.proofs.Common.{drop}
use Rattle.count_core.specs.Assignments.{SatisfiesQuestion}
use Rattle.top_tests.proofs.pairing_counts.make_true.Given as goal

-- the literals so far are true, so those left decide
abbrev pub invariant-loop-lit : goal.invariant-loop-lit
invariant-loop-lit l = SatisfiesQuestion l.values (drop l.lit-index l.lits) → SatisfiesQuestion l.values l.lits
