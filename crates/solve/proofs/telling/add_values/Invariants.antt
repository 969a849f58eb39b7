use Rattle.std.proofs.Common.{◌≡◌, ◌++◌, drop}
use Rattle.std.specs.Prelude.{flat_map}
use Rattle.solve.specs.Answers.{value_text}
use Rattle.solve.proofs.telling.add_values.Given as goal

-- the text so far and that of the values that are left are the whole
abbrev pub invariant-loop-value : goal.invariant-loop-value
invariant-loop-value l = l.text.items ++ flat_map value_text (drop l.value-index l.values) ≡ l.initial.text.items ++ flat_map value_text l.values
