-- Members of a JSON object, and the forms that they may have.
use Rattle.std.specs.Prelude.{ℕ, Bool, true, false, not, nat_le, bytes_eq, List, [], ◌∷◌, Option, Some, None, option_and_then, option_map, is_none, is_some}
use Rattle.serde_json.specs.Data.{Data, Items, no_items, item}
use Rattle.serde_json.specs.Find.{get, as_str, as_number, as_u64, as_array, as_object}
use Rattle.team_files.specs.Characters.{is_capital, is_tag}

-- whether the object lacks the member; null is a member that is there
abbrev pub lacks : List ℕ → Data → Bool
lacks name d = is_none (get name d)

abbrev pub is_object : Data → Bool
is_object d = is_some (as_object d)

-- the elements of a list
abbrev pub elements : Items → List Data
elements no_items = []
elements (item d ds) = d ∷ elements ds

abbrev pub list_of : Data → Option (List Data)
list_of d = option_map elements (as_array d)

-- a text in a member
abbrev pub text_in : List ℕ → Data → Option (List ℕ)
text_in name d = option_and_then as_str (get name d)

-- a list in a member
abbrev pub list_in : List ℕ → Data → Option (List Data)
list_in name d = option_and_then list_of (get name d)

-- a whole number in a member: one that is read as an unsigned 64-bit number
abbrev pub number_in : List ℕ → Data → Option ℕ
number_in name d = option_and_then as_u64 (option_and_then as_number (get name d))

-- the value where the test holds
abbrev pub where_true : {A : Type 0} → Bool → A → Option A
where_true true a = Some a
where_true false a = None

-- a whole number in a member that is at least 1
abbrev pub positive_in : List ℕ → Data → Option ℕ
positive_in name d = option_and_then (λ n. where_true (nat_le 1 n) n) (number_in name d)

-- a whole number in a member that is at most `most`
abbrev pub number_to : ℕ → List ℕ → Data → Option ℕ
number_to most name d = option_and_then (λ n. where_true (nat_le n most) n) (number_in name d)

-- a text of exactly one letter A to Z
abbrev pub letter_of : List ℕ → Option ℕ
letter_of [] = None
letter_of (b ∷ []) = where_true (is_capital b) b
letter_of (b ∷ c ∷ bs) = None

-- a text that is a tag
abbrev pub tag_of : Data → Option (List ℕ)
tag_of d = option_and_then (λ text. where_true (is_tag text) text) (as_str d)

-- one tag, or two different ones
abbrev pub tags_of : List Data → Option (List (List ℕ))
tags_of [] = None
tags_of (a ∷ []) = option_map (λ s. s ∷ []) (tag_of a)
tags_of (a ∷ b ∷ []) =
    option_and_then (λ s.
    option_and_then (λ t. where_true (not (bytes_eq s t)) (s ∷ t ∷ [])) (tag_of b)) (tag_of a)
tags_of (a ∷ b ∷ c ∷ ds) = None

abbrev pub tags_in : List ℕ → Data → Option (List (List ℕ))
tags_in name d = option_and_then tags_of (list_in name d)
