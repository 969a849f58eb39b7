-- The alphabets of codes, tags and letters (this project's own).
use Rattle.std.specs.Prelude.{ℕ, Bool, ◌==◌, ◌&&◌, ◌||◌, nat_le, List, length}
use Rattle.std.specs.List.{list_all}

-- a capital letter, A to Z
abbrev pub is_capital : ℕ → Bool
is_capital b = nat_le 65 b && nat_le b 90

-- a digit, 0 to 9
abbrev pub is_digit : ℕ → Bool
is_digit b = nat_le 48 b && nat_le b 57

-- a character of a code or a tag
abbrev pub is_code_character : ℕ → Bool
is_code_character b = is_capital b || is_digit b

-- a code is three characters A to Z or 0 to 9
abbrev pub is_code : List ℕ → Bool
is_code bytes = (length bytes == 3) && list_all is_code_character bytes

-- how many characters a tag may have
abbrev pub longest_tag : ℕ
longest_tag = 16

-- a tag is at least 1 and at most `longest_tag` characters A to Z or 0 to 9
abbrev pub is_tag : List ℕ → Bool
is_tag bytes =
    (nat_le 1 (length bytes) && nat_le (length bytes) longest_tag)
    && list_all is_code_character bytes
