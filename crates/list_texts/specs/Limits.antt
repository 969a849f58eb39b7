-- The words of a program that reads a text: the most bytes that it takes.
use Rattle.std.specs.Prelude.{◌≡◌, ℕ, ◌<◌, ◌^◌, List, [], ◌∷◌, map, String, string_bytes}
use Rattle.std.specs.Fmt.{decimal}
use Rattle.std.specs.declared.alloc.Global.{Global}

-- the words' bytes
abbrev pub words_of : List (String Global) → List (List ℕ)
words_of words = map string_bytes words

-- The words' one form: one number, which a u64 holds.
abbrev pub AreLimit : List (List ℕ) → ℕ → Type 0
AreLimit words limit = (words ≡ decimal limit ∷ []) × (limit < 2 ^ 64)

-- the words have the one form
abbrev pub HaveLimit : List (List ℕ) → Type 0
HaveLimit words = (limit : ℕ) × AreLimit words limit
