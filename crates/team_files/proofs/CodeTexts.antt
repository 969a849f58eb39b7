-- Codes are plain text.
use Rattle.std.proofs.Common.{◌≡◌, ℕ, ◌<◌, true, List, [], ◌∷◌, arith}
use Rattle.std.specs.Prelude.{◌==◌, length, IsAscii, IsUtf8}
use Rattle.std.specs.List.{list_all}
use Rattle.std.proofs.lemmas.Str.Ascii.{IsAscii-nil, IsAscii-cons}
use Rattle.std.proofs.lemmas.Str.{IsUtf8-from_ascii}
use Rattle.std.proofs.lemmas.Bool.{and_parts}
use Rattle.std.proofs.lemmas.Bool.Decides.{nat_tests}
use Rattle.team_files.specs.Characters.{is_code, is_code_character}

character_small : (b : ℕ) → is_code_character b ≡ true → b < 128
character_small b e = grind (arith, nat_tests)

all_small : (bytes : List ℕ) → list_all is_code_character bytes ≡ true → IsAscii bytes
all_small [] e = IsAscii-nil
all_small (b ∷ bytes) e = let h = and_parts (is_code_character b) (list_all is_code_character bytes) e in IsAscii-cons b bytes (character_small b h.0) (all_small bytes h.1)

-- a code is text
pub code_is_text : (bytes : List ℕ) → is_code bytes ≡ true → IsUtf8 bytes
code_is_text bytes e = IsUtf8-from_ascii bytes (all_small bytes (and_parts (length bytes == 3) (list_all is_code_character bytes) e).1)
