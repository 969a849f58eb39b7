use Rattle.std.proofs.Common.{◌≡◌, ◌++◌, drop}
use Rattle.std.specs.List.{AllByRecursion}
use Rattle.group_draw.specs.Encoding.{NamesAtom, lits_of_moves}
use Rattle.group_draw.proofs.literals.literals_of.Given as goal

-- the literals so far and those of the moves left are all
abbrev pub invariant-loop-step : goal.invariant-loop-step
invariant-loop-step l = record {
  literals : l.literals.items ++ lits_of_moves l.file (drop l.step-index l.moves) ≡ lits_of_moves l.file l.moves;
  moves : AllByRecursion (NamesAtom l.file) (drop l.step-index l.moves);
}
