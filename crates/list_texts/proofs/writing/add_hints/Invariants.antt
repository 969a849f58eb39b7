use Rattle.std.proofs.Common.{◌≡◌, ◌++◌, drop}
use Rattle.std.specs.Prelude.{flat_map}
use Rattle.list_texts.specs.ListTexts.{hint_text}
use Rattle.list_texts.proofs.writing.add_hints.Given as goal

-- the text so far and that of the hints that are left are the whole
abbrev pub invariant-loop-hint : goal.invariant-loop-hint
invariant-loop-hint l = l.text.items ++ flat_map hint_text (drop l.hint-index l.hints) ≡ l.initial.text.items ++ flat_map hint_text l.hints
