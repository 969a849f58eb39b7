use Rattle.std.proofs.Common.{◌≡◌, ◌≤◌, ◌+◌, take}
use Rattle.count_core.specs.PartialAssignments.{trues, falses}
use Rattle.cert_checker.proofs.effect.tally_of.Given as goal

abbrev pub invariant-loop-lit : goal.invariant-loop-lit
invariant-loop-lit l = record {
  trues : l.tally.trues ≡ trues l.values (take l.lit-index l.lits);
  falses : l.tally.falses ≡ falses l.values (take l.lit-index l.lits);
  within : l.tally.trues + l.tally.falses ≤ l.lit-index;
}
