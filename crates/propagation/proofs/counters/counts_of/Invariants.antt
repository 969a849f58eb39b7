use Rattle.std.proofs.Common.{◌≡◌, ◌≤◌, take}
use Rattle.count_core.specs.PartialAssignments.{trues, falses}
use Rattle.propagation.proofs.counters.counts_of.Given as goal

-- the first literals are counted
abbrev pub invariant-loop-lit : goal.invariant-loop-lit
invariant-loop-lit l = record {
  trues : l.trues ≡ trues l.values (take l.lit-index l.lits);
  falses : l.falses ≡ falses l.values (take l.lit-index l.lits);
  few_true : l.trues ≤ l.lit-index;
  few_false : l.falses ≤ l.lit-index;
}
