use Rattle.std.proofs.Common.{refl}
use Rattle.group_draw.proofs.laws.law_worked_files.Goals as goal

pub returns : goal.returns
returns c = record { clash_rules = refl; part_rules = refl; lits = refl; wishes = refl }
