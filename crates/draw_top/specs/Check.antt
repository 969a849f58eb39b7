-- What `drawcheck judge` writes: what the written rules say of a table.
use Rattle.std.specs.Prelude.{◌≡◌, ℕ, List, [], ◌∷◌, ◌++◌, codes, Option, ◌⊎◌}
use Rattle.std.specs.Fmt.{decimal}
use Rattle.rule_sets.specs.Files.{DrawFile, IsFileOf}
use Rattle.draw_tables.specs.declared.table.Table.{Table}
use Rattle.draw_tables.specs.Tables.{IsLegal}
use Rattle.draw_tables.specs.TableTexts.{IsTextOf}
use Rattle.draw_tables.specs.Verdicts.{IsFirstBroken}
use Rattle.draw_lines.specs.Inputs.{head_of, command_lines}
use Rattle.draw_top.specs.Outside.{Gains}

-- The words' one form: the word judge alone.
abbrev pub IsJudge : List (List ℕ) → Type 0
IsJudge words = words ≡ codes "judge" ∷ []

-- The lines are exactly one line, the text of this table of the file.
abbrev pub AreTableLine : DrawFile → List (List ℕ) → Table → Type 0
AreTableLine file lines table = (line : List ℕ) × (lines ≡ line ∷ []) × IsTextOf file table line

-- The lines are the text of a legal table of the file.
abbrev pub AreLegal : DrawFile → List (List ℕ) → Type 0
AreLegal file lines = (table : Table) × AreTableLine file lines table × IsLegal file table

-- the line of a rule that is broken
abbrev pub broken_line : ℕ → ℕ → ℕ → List ℕ
broken_line rule first second = codes "broken " ++ decimal rule ++ codes " " ++ decimal first ++ codes " " ++ decimal second ++ codes "\n"

-- The text tells the first case of the first rule that the table in the lines breaks.
abbrev pub TellsBroken : DrawFile → List (List ℕ) → List ℕ → Type 0
TellsBroken file lines text = (table : Table) × AreTableLine file lines table
    × ((rule : ℕ) × (first : ℕ) × (second : ℕ) × IsFirstBroken file table rule first second × (text ≡ broken_line rule first second))

-- The text tells that the lines are not exactly one line that is the text of a table of the file.
abbrev pub TellsNoTable : DrawFile → List (List ℕ) → List ℕ → Type 0
TellsNoTable file lines text =
    ((table : Table) → ¬ AreTableLine file lines table) × (text ≡ codes "not a table\n")

-- ---- what is said of an input

-- The input is a draw file with a legal table.
abbrev pub IsLegalInput : List ℕ → Type 0
IsLegalInput input = (file : DrawFile) × IsFileOf (head_of input) file × AreLegal file (command_lines input)

-- The text approves of the input, which is a draw file with a legal table.
abbrev pub IsApprovalOf : List ℕ → List ℕ → Type 0
IsApprovalOf input text = IsLegalInput input × (text ≡ codes "legal\n")

-- The text tells why the input, which has a draw file, has no legal table.
abbrev pub IsObjectionTo : List ℕ → List ℕ → Type 0
IsObjectionTo input text = (file : DrawFile) × IsFileOf (head_of input) file
    × (TellsBroken file (command_lines input) text ⊎ TellsNoTable file (command_lines input) text)

-- ---- what the sink gained of what the source held, where they tell it

abbrev pub GainsApproval : Option (List ℕ) → Option (List ℕ) → Option (List ℕ) → Type 0
GainsApproval left old new = Gains IsApprovalOf left old new

abbrev pub GainsObjection : Option (List ℕ) → Option (List ℕ) → Option (List ℕ) → Type 0
GainsObjection left old new = Gains IsObjectionTo left old new
