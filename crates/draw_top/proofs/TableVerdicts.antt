-- An input is approved of, objected to or refused, and one of them only.
use Rattle.std.proofs.Common.{◌≡◌, ℕ, ◌≤◌, List, [], ◌∷◌, length, inl, inr, refl, sym, ◌∙◌, subst, ◌⊎◌, arith}
use Rattle.rule_sets.specs.Files.{DrawFile, IsFileOf, IsWellFormed}
use Rattle.draw_tables.specs.declared.table.Table.{Table}
use Rattle.draw_tables.specs.Tables.{IsLegal}
use Rattle.draw_tables.specs.TableTexts.{IsTextOf, OneTableOfText}
use Rattle.draw_tables.specs.Verdicts.{NoneBrokenWhereLegal}
use Rattle.draw_lines.specs.Inputs.{head_of, command_lines}
use Rattle.draw_top.specs.declared.status.Status.{Status}
use Rattle.draw_top.specs.Follow.{HasFile, IsRefusalOf}
use Rattle.draw_top.specs.Check.{AreTableLine, AreLegal, TellsBroken, TellsNoTable, IsLegalInput, IsObjectionTo}
use Rattle.draw_top.specs.Modes.{Judge, limit_of}
use Rattle.draw_top.specs.Endings.{IsDecided}
use Rattle.draw_top.proofs.WhatWasRead.{not_refused}
use Rattle.draw_top.proofs.OneAnswer.{one_file}

formed : (bytes : List ℕ) (file : DrawFile) → IsFileOf bytes file → IsWellFormed file
formed bytes file h = (h.0, (h.1.0, h.1.2), h.2)

same_line : (lines : List (List ℕ)) (a b : List ℕ) → lines ≡ a ∷ [] → lines ≡ b ∷ [] → a ≡ b
same_line lines a b e f = let both = sym e ∙ f in cc

module _ (one : OneTableOfText) (none : NoneBrokenWhereLegal) where
  one_table : (file : DrawFile) (lines : List (List ℕ)) (s t : Table) → IsWellFormed file → AreTableLine file lines s → AreTableLine file lines t → s ≡ t
  one_table file lines s t is h g =
      let line : h.0 ≡ g.0 = same_line lines h.0 g.0 h.1 g.1 in
      let P : List ℕ → Type 0 = λ l. IsTextOf file s l in
      one file s t g.0 is (subst P line h.2) g.2

  against : (file : DrawFile) (lines : List (List ℕ)) (text : List ℕ) → IsWellFormed file → AreLegal file lines → TellsBroken file lines text ⊎ TellsNoTable file lines text → ⊥
  against file lines text is legal (inr none_there) = none_there.0 legal.0 legal.1
  against file lines text is legal (inl broken) =
      let same : legal.0 ≡ broken.0 = one_table file lines legal.0 broken.0 is legal.1 broken.1 in
      let P : Table → Type 0 = λ t. IsLegal file t in
      let case = broken.2 in
      none file broken.0 (subst P same legal.2) case.0 case.1 case.2 case.3.broken

  -- An input with a legal table is not objected to.
  pub not_both : (input text : List ℕ) → IsLegalInput input → IsObjectionTo input text → ⊥
  not_both input text h g =
      let same : h.0 ≡ g.0 = one_file (head_of input) h.0 g.0 h.1 g.1 in
      let P : DrawFile → Type 0 = λ file. AreLegal file (command_lines input) in
      against g.0 (command_lines input) text (formed (head_of input) g.0 g.1) (subst P same h.2) g.2

-- An input with a legal table has a file.
pub legal_has_file : (input : List ℕ) → IsLegalInput input → HasFile input
legal_has_file input h = (h.0, h.1)

-- An input that is objected to has a file.
pub objection_has_file : (input text : List ℕ) → IsObjectionTo input text → HasFile input
objection_has_file input text h = (h.0, h.1)

-- ---- an input of which this is said calls for no other status

pub legal_decides : (input : List ℕ) (called : Status)
    → length input ≤ limit_of Judge → IsLegalInput input → IsDecided Judge input called → Status.Ok ≡ called
legal_decides input Status.Ok fits is decided = refl
legal_decides input Status.NotValid fits is decided = absurd (decided.2 is)
legal_decides input Status.FileRefused fits is decided = absurd (decided.1 (legal_has_file input is))
legal_decides input Status.TooLong fits is decided = absurd (omega arith)
legal_decides input called fits is decided = absurd decided

module _ (one : OneTableOfText) (none : NoneBrokenWhereLegal) where
  pub objection_decides : (input text : List ℕ) (called : Status)
      → length input ≤ limit_of Judge → IsObjectionTo input text → IsDecided Judge input called → Status.NotValid ≡ called
  objection_decides input text Status.NotValid fits is decided = refl
  objection_decides input text Status.Ok fits is decided = absurd (not_both one none input text decided.1 is)
  objection_decides input text Status.FileRefused fits is decided = absurd (decided.1 (objection_has_file input text is))
  objection_decides input text Status.TooLong fits is decided = absurd (omega arith)
  objection_decides input text called fits is decided = absurd decided

pub refusal_decides : (input text : List ℕ) (called : Status)
    → length input ≤ limit_of Judge → IsRefusalOf input text → IsDecided Judge input called → Status.FileRefused ≡ called
refusal_decides input text Status.FileRefused fits is decided = refl
refusal_decides input text Status.Ok fits is decided = absurd (not_refused input text (legal_has_file input decided.1) is)
refusal_decides input text Status.NotValid fits is decided = absurd (not_refused input text decided.1 is)
refusal_decides input text Status.TooLong fits is decided = absurd (omega arith)
refusal_decides input text called fits is decided = absurd decided
