use Rattle.std.proofs.Common.{refl}
use Rattle.count_core.specs.PartialAssignments.{conflicts, forces, forced_assignment}
use Rattle.count_core.proofs.laws.law_clash_table.Goals as goal

pub returns : goal.returns
unfolding conflicts forces forced_assignment
returns c = record {
  first = refl;
  second = refl;
  third = refl;
  last_idle = refl;
  idle = refl;
  last_forces = refl;
  repeated = refl;
  no_hint = refl;
  early = refl;
  out_of_range = refl;
  opposite = refl;
  no_rule = refl;
  no_step = refl;
}
