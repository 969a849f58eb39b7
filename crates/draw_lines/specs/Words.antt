-- Commands as they are written in a line.
use Rattle.std.specs.Prelude.{ℕ, ◌+◌, ◌-◌, ◌*◌, ◌==◌, ◌&&◌, Bool, not, codes, if◌then◌else◌, List, [], ◌∷◌, Option, Some, None, option_and_then}
use Rattle.team_files.specs.Characters.{is_digit, is_code}
use Rattle.team_files.specs.Members.{where_true}
use Rattle.draw_state.specs.declared.commands.Word.{Word}
use Rattle.draw_state.specs.declared.commands.Command.{Command}

-- a digit that is not 0
abbrev pub is_first_digit : ℕ → Bool
is_first_digit b = is_digit b && not (b == 48)

-- three characters are a code; one or two digits of which the first is not 0 are a number
abbrev pub word_of : List ℕ → Option Word
word_of [] = None
word_of (a ∷ []) = where_true (is_first_digit a) (Word.Number (a - 48))
word_of (a ∷ b ∷ []) = where_true (is_first_digit a && is_digit b) (Word.Number ((a - 48) * 10 + (b - 48)))
word_of (a ∷ b ∷ c ∷ []) = where_true (is_code (a ∷ b ∷ c ∷ [])) (Word.Team (a ∷ b ∷ c ∷ []))
word_of (a ∷ b ∷ c ∷ d ∷ bytes) = None

-- what follows the text at the start of the bytes, where they begin with it
abbrev pub stripped : List ℕ → List ℕ → Option (List ℕ)
stripped [] bytes = Some bytes
stripped (x ∷ xs) [] = None
stripped (x ∷ xs) (b ∷ bytes) = if b == x then stripped xs bytes else None

abbrev pub ball_of : Option Word → Command
ball_of None = Command.Bad
ball_of (Some word) = Command.Ball word

-- A command is `ball ` and a word; anything else is none.
abbrev pub command_of : List ℕ → Command
command_of line = ball_of (option_and_then word_of (stripped (codes "ball ") line))
