use Rattle.std.proofs.Common.{◌≡◌, ◌++◌, drop}
use Rattle.std.specs.Prelude.{flat_map}
use Rattle.list_texts.specs.ListTexts.{lit_text}
use Rattle.list_texts.proofs.writing.add_lits.Given as goal

-- the text so far and that of the lits that are left are the whole
abbrev pub invariant-loop-lit : goal.invariant-loop-lit
invariant-loop-lit l = l.text.items ++ flat_map lit_text (drop l.lit-index l.lits) ≡ l.initial.text.items ++ flat_map lit_text l.lits
