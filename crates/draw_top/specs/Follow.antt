-- What `follow` writes: the answer text of its input, or the line of the head's first fault.
use Rattle.std.specs.Prelude.{◌≡◌, ℕ, List, [], ◌∷◌, codes, Option, map, string_bytes, String}
use Rattle.std.specs.declared.alloc.Global.{Global}
use Rattle.team_files.specs.declared.fault.FileFault.{FileFault}
use Rattle.rule_sets.specs.Files.{DrawFile, IsFileOf, IsFileFault}
use Rattle.draw_lines.specs.Inputs.{head_of, command_lines}
use Rattle.draw_lines.specs.Answers.{IsAnswer}
use Rattle.draw_top.specs.Faults.{fault_line}
use Rattle.draw_top.specs.Outside.{Gains}

abbrev pub words_of : List (String Global) → List (List ℕ)
words_of words = map string_bytes words

-- The words' one form: the word follow alone.
abbrev pub IsFollow : List (List ℕ) → Type 0
IsFollow words = words ≡ codes "follow" ∷ []

-- the input has a draw file
abbrev pub HasFile : List ℕ → Type 0
HasFile input = (file : DrawFile) × IsFileOf (head_of input) file

-- The text is the answer text of the input.
abbrev pub IsAnswerOf : List ℕ → List ℕ → Type 0
IsAnswerOf input text = (file : DrawFile) × IsFileOf (head_of input) file × IsAnswer file (command_lines input) text

-- The text is the line of the first fault of the input's head, which has no draw file.
abbrev pub IsRefusalOf : List ℕ → List ℕ → Type 0
IsRefusalOf input text = (fault : FileFault) × IsFileFault (head_of input) fault × (text ≡ fault_line fault)

-- The sink gained the answer text of what the source held, where they tell it.
abbrev pub GainsAnswer : Option (List ℕ) → Option (List ℕ) → Option (List ℕ) → Type 0
GainsAnswer left old new = Gains IsAnswerOf left old new
