use Rattle.std.proofs.Common.{◌≡◌, drop, take, [], None}
use Rattle.std.specs.Prelude.{replicate}
use Rattle.cert_checker.specs.Checks.{first_bad}
use Rattle.cert_checker.proofs.checking.first_bad.Given as goal

-- the steps so far are accepted, and nothing is set
abbrev pub invariant-loop-place : goal.invariant-loop-place
invariant-loop-place l = record {
  rest : first_bad l.problem (take l.place l.steps) (drop l.place l.steps) l.place ≡ first_bad l.problem [] l.steps 0;
  clean : l.assignment ≡ replicate l.problem.atoms None;
}
