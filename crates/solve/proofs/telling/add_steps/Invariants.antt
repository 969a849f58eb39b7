use Rattle.std.proofs.Common.{◌≡◌, ◌++◌, drop}
use Rattle.std.specs.Prelude.{flat_map}
use Rattle.list_texts.specs.ListTexts.{step_line}
use Rattle.solve.proofs.telling.add_steps.Given as goal

-- the text so far and that of the steps that are left are the whole
abbrev pub invariant-loop-step : goal.invariant-loop-step
invariant-loop-step l = l.text.items ++ flat_map step_line (drop l.step-index l.steps) ≡ l.initial.text.items ++ flat_map step_line l.steps
