use Rattle.std.proofs.Common.{◌≡◌, ◌≤◌, ℕ, drop, length, get_or}
use Rattle.count_core.specs.Problems.{first_fault}
use Rattle.count_core.proofs.faults.fault_among.Given as goal

-- no rule so far has a fault, and no mark is past it
abbrev pub invariant-loop-place : goal.invariant-loop-place
invariant-loop-place l = record {
  rest : first_fault (length l.marks) l.place (drop l.place l.rules) ≡ first_fault (length l.marks) 0 l.rules;
  older : (k : ℕ) → get_or l.marks k 0 ≤ l.place;
}
