-- The answer text is a function of the input.
use Rattle.std.specs.Prelude.{◌≡◌, ℕ, List}
use Rattle.draw_top.specs.Follow.{HasFile, IsAnswerOf, IsRefusalOf}

-- An input has at most one answer text.
abbrev pub OneAnswer : Type 0
OneAnswer = (input t u : List ℕ) → IsAnswerOf input t → IsAnswerOf input u → t ≡ u

-- An input that has a draw file has an answer text.
abbrev pub AnswerExists : Type 0
AnswerExists = (input : List ℕ) → HasFile input → (text : List ℕ) × IsAnswerOf input text

-- No input is answered and refused.
abbrev pub AnswerOrRefusal : Type 0
AnswerOrRefusal = (input text line : List ℕ) → IsAnswerOf input text → ¬ IsRefusalOf input line
