use Rattle.std.proofs.Common.{◌≡◌, ◌≤◌, ℕ, drop, get_or}
use Rattle.count_core.proofs.Marks.{meets_mark}
use Rattle.count_core.proofs.faults.repeats.Given as goal

-- with the marks so far, those left decide; no mark is past this one
abbrev pub invariant-loop-lit : goal.invariant-loop-lit
invariant-loop-lit l = record {
  rest : meets_mark l.marks l.mark (drop l.lit-index l.lits) ≡ meets_mark l.fn.marks l.mark l.lits;
  older : (k : ℕ) → get_or l.marks k 0 ≤ l.mark;
}
