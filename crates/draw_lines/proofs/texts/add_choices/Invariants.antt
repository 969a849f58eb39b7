use Rattle.std.proofs.Common.{◌≡◌, ◌++◌, drop}
use Rattle.draw_tables.specs.Names.{AreFileChoices}
use Rattle.draw_lines.specs.Texts.{choices_text}
use Rattle.draw_lines.proofs.texts.add_choices.Given as goal

-- the text so far and that of the choices that are left are the whole
abbrev pub invariant-loop-choice : goal.invariant-loop-choice
invariant-loop-choice l = record {
  teams : AreFileChoices l.file (drop l.choice-index l.choices);
  whole : l.text.items ++ choices_text l.file (drop l.choice-index l.choices) ≡ l.initial.text.items ++ choices_text l.file l.choices;
}
