-- What reading a table's text finds, item by item. These serve the proofs; the text itself stands in TableTexts.
use Rattle.std.specs.Prelude.{◌≡◌, ℕ, zero, suc, ◌+◌, ◌-◌, ◌==◌, ◌&&◌, nat_le, nat_lt, if◌then◌else◌, Bool, List, [], ◌∷◌, ◌++◌, take, drop, Option, Some, None, option_and_then, option_map}
use Rattle.team_files.specs.declared.team.Team.{Team}
use Rattle.team_files.specs.declared.team_id.TeamId.{TeamId}
use Rattle.team_files.specs.Characters.{is_code}
use Rattle.team_files.specs.Teams.{find}
use Rattle.draw_tables.specs.declared.group_place.GroupPlace.{GroupPlace}

-- ---- what stands in front

-- the team that the text is the code of
abbrev pub team_coded : List Team → List ℕ → Option TeamId
team_coded teams text = if is_code text then find text teams else None

-- the team whose code stands in front
abbrev pub front_team : List Team → List ℕ → Option TeamId
front_team teams bytes = team_coded teams (take 3 bytes)

-- ---- items of one width

-- the item that stands in front behind one space
abbrev pub spaced_item : {A : Type 0} → (List ℕ → Option A) → List ℕ → Option A
spaced_item front [] = None
spaced_item front (b ∷ bs) = if b == 32 then front bs else None

-- so many items of the width, each behind one space, and nothing after them
abbrev pub spaced_items : {A : Type 0} → (List ℕ → Option A) → ℕ → ℕ → List ℕ → Option (List A)
spaced_items front width zero [] = Some []
spaced_items front width zero (b ∷ bs) = None
spaced_items front width (suc n) bytes =
    option_and_then (λ x.
    option_map (λ xs. x ∷ xs) (spaced_items front width n (drop (suc width) bytes))) (
    spaced_item front bytes)

-- an item and so many more
abbrev pub items_in : {A : Type 0} → (List ℕ → Option A) → ℕ → ℕ → List ℕ → Option (List A)
items_in front width more bytes =
    option_and_then (λ x.
    option_map (λ xs. x ∷ xs) (spaced_items front width more (drop width bytes))) (front bytes)

-- the items that were found stand behind the old ones
abbrev pub AddsItems : {A : Type 0} → List A → Option (List A) → List A → Type 0
AddsItems old found new = option_map (λ xs. old ++ xs) found ≡ Some new

-- ---- teams

-- the team whose code stands in front behind one space
abbrev pub spaced_team : List Team → List ℕ → Option TeamId
spaced_team teams bytes = spaced_item (front_team teams) bytes

-- so many teams, the code of each behind one space, and nothing after them
abbrev pub spaced_teams : List Team → ℕ → List ℕ → Option (List TeamId)
spaced_teams teams n bytes = spaced_items (front_team teams) 3 n bytes

-- a team and so many more
abbrev pub teams_in : List Team → ℕ → List ℕ → Option (List TeamId)
teams_in teams more bytes = items_in (front_team teams) 3 more bytes

-- ---- places

-- a letter of so many groups, where the first is A, and a digit of so many positions, where the first is 1
abbrev pub is_place : ℕ → ℕ → ℕ → ℕ → Bool
is_place groups positions letter digit =
    (nat_le 65 letter && nat_lt letter (65 + groups))
    && (nat_lt 48 digit && nat_le digit (48 + positions))

-- the place that a letter and a digit are
abbrev pub place_of : ℕ → ℕ → ℕ → ℕ → Option GroupPlace
place_of groups positions letter digit =
    if is_place groups positions letter digit
    then Some (record { group = letter - 65; position = digit - 48 }) else None

-- the place that stands in front
abbrev pub front_place : ℕ → ℕ → List ℕ → Option GroupPlace
front_place groups positions [] = None
front_place groups positions (a ∷ []) = None
front_place groups positions (a ∷ b ∷ bs) = place_of groups positions a b

-- the place that stands in front behind one space
abbrev pub spaced_place : ℕ → ℕ → List ℕ → Option GroupPlace
spaced_place groups positions bytes = spaced_item (front_place groups positions) bytes

-- so many places, each behind one space, and nothing after them
abbrev pub spaced_places : ℕ → ℕ → ℕ → List ℕ → Option (List GroupPlace)
spaced_places groups positions n bytes = spaced_items (front_place groups positions) 2 n bytes

-- a place and so many more
abbrev pub places_in : ℕ → ℕ → ℕ → List ℕ → Option (List GroupPlace)
places_in groups positions more bytes = items_in (front_place groups positions) 2 more bytes
