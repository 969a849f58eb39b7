-- The text of a table (this project's own).
use Rattle.std.specs.Prelude.{◌≡◌, ℕ, ◌+◌, ◌<◌, List, [], ◌∷◌, ◌++◌, map, Option, Some, None, slice_get}
use Rattle.std.specs.List.{AllByRecursion as Each}
use Rattle.team_files.specs.declared.team.Team.{Team}
use Rattle.team_files.specs.declared.team_id.TeamId.{TeamId}
use Rattle.rule_sets.specs.Files.{DrawFile, IsWellFormed}
use Rattle.draw_tables.specs.declared.group_place.GroupPlace.{GroupPlace}
use Rattle.draw_tables.specs.declared.table.Table.{Table}
use Rattle.draw_tables.specs.declared.table.Table.TheVariants.{Group, Pairs}
use Rattle.draw_tables.specs.GroupTables.{AreFilePlaces}
use Rattle.draw_tables.specs.Tables.{IsGroupTableOf, IsPairTableOf}

abbrev pub code_in : Option Team → List ℕ
code_in None = []
code_in (Some team) = team.code

-- a team's code
abbrev pub code_of : List Team → TeamId → List ℕ
code_of teams id = code_in (slice_get teams id.0)

-- the texts, each behind one space
abbrev pub spaced_texts : List (List ℕ) → List ℕ
spaced_texts [] = []
spaced_texts (text ∷ texts) = 32 ∷ text ++ spaced_texts texts

-- the texts with one space between two, and none at the ends
abbrev pub texts_in_row : List (List ℕ) → List ℕ
texts_in_row [] = []
texts_in_row (text ∷ texts) = text ++ spaced_texts texts

-- ---- pairings

-- the codes of the teams, each behind one space
abbrev pub spaced_codes : List Team → List TeamId → List ℕ
spaced_codes teams ts = spaced_texts (map (code_of teams) ts)

-- the codes of the teams with one space between two, and none at the ends
abbrev pub codes_text : List Team → List TeamId → List ℕ
codes_text teams ts = texts_in_row (map (code_of teams) ts)

-- The bytes are the text of this table of a pairing: for each runner-up in file order, the code of its winner.
pub record IsTextOfPairs (file : DrawFile) (winners : List TeamId) (bytes : List ℕ) : Type 0 where
  pub of_file : IsPairTableOf file winners
  pub text : codes_text file.teams winners ≡ bytes

-- ---- groups

-- a place: the letter of the group, where group 0 is A, and the digit of the position; a file has few pots
abbrev pub place_text : GroupPlace → List ℕ
place_text place = (65 + place.group) ∷ (48 + place.position) ∷ []

-- a letter is there for the group, and one digit for the position
abbrev pub IsWritable : GroupPlace → Type 0
IsWritable place = (place.group < 26) × (place.position < 10)

-- each place is written so
abbrev pub AreWritable : List GroupPlace → Type 0
AreWritable places = Each IsWritable places

-- the places, each behind one space
abbrev pub spaced_places : List GroupPlace → List ℕ
spaced_places places = spaced_texts (map place_text places)

-- the places with one space between two, and none at the ends
abbrev pub places_text : List GroupPlace → List ℕ
places_text places = texts_in_row (map place_text places)

-- The bytes are the text of this table of a group draw: for each team in file order its place.
pub record IsTextOfGroups (file : DrawFile) (places : List GroupPlace) (bytes : List ℕ) : Type 0 where
  pub of_file : IsGroupTableOf file places
  pub within : AreFilePlaces file places
  pub text : places_text places ≡ bytes

-- ---- tables

-- The bytes are the text of this table of the file.
abbrev pub IsTextOf : DrawFile → Table → List ℕ → Type 0
IsTextOf file (Group groups) bytes = IsTextOfGroups file groups.places bytes
IsTextOf file (Pairs pairs) bytes = IsTextOfPairs file pairs.winners bytes

-- The bytes are the text of no table of the file.
abbrev pub IsTextOfNone : DrawFile → List ℕ → Type 0
IsTextOfNone file bytes = (table : Table) → ¬ IsTextOf file table bytes

-- ---- law

-- Two tables of a file with one text are equal.
abbrev pub OneTableOfText : Type 0
OneTableOfText = (file : DrawFile) (one other : Table) (bytes : List ℕ)
    → IsWellFormed file → IsTextOf file one bytes → IsTextOf file other bytes → one ≡ other
