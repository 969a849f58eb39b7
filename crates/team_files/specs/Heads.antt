-- The head of a draw file, or its first fault (this project's own form of a draw file).
use Rattle.std.specs.Prelude.{◌≡◌, ℕ, zero, suc, ◌+◌, ◌==◌, ◌&&◌, not, nat_le, nat_lt, bytes_eq, codes, if◌then◌else◌, List, [], ◌∷◌, ◌++◌, length, Bool, Option, Some, None, option_map, option_and_then, is_some, Result, Ok, Err, ok_or, count_by, IsUtf8, ◌⊎◌}
use Rattle.std.specs.List.{list_all, list_any}
use Rattle.std.specs.Option.{option_or}
use Rattle.serde_json.specs.Data.{Data}
use Rattle.serde_json.specs.Read.{read}
use Rattle.serde_json.specs.Find.{get, as_str}
use Rattle.team_files.specs.declared.kind.Kind.{Kind}
use Rattle.team_files.specs.declared.fault.Field.{Field}
use Rattle.team_files.specs.declared.fault.FileFault.{FileFault}
use Rattle.team_files.specs.declared.team.Team.{Team}
use Rattle.team_files.specs.declared.head_pair.HeadPair.{HeadPair}
use Rattle.team_files.specs.declared.head_limit.HeadLimit.{HeadLimit}
use Rattle.team_files.specs.declared.head_place.HeadPlace.{HeadPlace}
use Rattle.team_files.specs.declared.fields.TeamFields.{TeamFields}
use Rattle.team_files.specs.declared.fields.HeadFields.{HeadFields}
use Rattle.team_files.specs.Characters.{is_code}
use Rattle.team_files.specs.Kinds.{kind_named, is_not_built}
use Rattle.team_files.specs.Teams.{find_from}
use Rattle.team_files.specs.Answers.{after, unless}
use Rattle.team_files.specs.Members.{lacks, is_object, list_of, text_in, list_in, number_in, where_true, positive_in, number_to, letter_of, tag_of, tags_in}

-- A head as contracts see it.
pub record Head : Type 0 where
  pub kind : Kind
  pub groups : ℕ
  pub pots : ℕ
  pub teams : List Team
  pub limits : List HeadLimit
  pub pairs : List HeadPair
  pub places : List HeadPlace

-- the head with these members
abbrev pub head_from : Kind → ℕ → ℕ
    → List Team → List HeadLimit → List HeadPair → List HeadPlace → Head
head_from kind groups pots teams limits pairs places = record {
  kind = kind;
  groups = groups;
  pots = pots;
  teams = teams;
  limits = limits;
  pairs = pairs;
  places = places;
}

-- ---- 1 NotJson

-- The bytes are read as one JSON value.
pub record IsJson (bytes : List ℕ) (d : Data) : Type 0 where
  pub utf8 : IsUtf8 bytes
  pub value : read bytes ≡ Some d

-- The bytes are not read as one JSON value.
abbrev pub IsNotJson : List ℕ → Type 0
IsNotJson bytes = IsUtf8 bytes → read bytes ≡ None

-- The fault is NotJson, and the bytes are not read as one JSON value.
abbrev pub IsJsonFault : List ℕ → FileFault → Type 0
IsJsonFault bytes fault = (fault ≡ FileFault.NotJson) × IsNotJson bytes

-- ---- 2 NotObject

abbrev pub object_fault : Data → Option FileFault
object_fault d = if is_object d then None else Some FileFault.NotObject

-- ---- the kind, told before all that follows: 4 and 5 of `kind`, 3 KindUnknown, 14 KindNotBuilt

-- what is wrong with a name that no kind has
abbrev pub fault_of_name : List ℕ → FileFault
fault_of_name text =
    if is_not_built text then FileFault.KindNotBuilt else FileFault.KindUnknown text

abbrev pub kind_of_text : Option (List ℕ) → Result Kind FileFault
kind_of_text None = Err (FileFault.FieldWrong Field.Kind)
kind_of_text (Some text) = ok_or (kind_named text) (fault_of_name text)

abbrev pub kind_of : Data → Result Kind FileFault
kind_of d =
    if lacks (codes "kind") d then Err (FileFault.FieldMissing Field.Kind)
    else kind_of_text (text_in (codes "kind") d)

-- ---- 4 FieldMissing: the first needed member that is absent

abbrev pub missing_if : Bool → Field → Option FileFault
missing_if absent field = if absent then Some (FileFault.FieldMissing field) else None

-- in the head itself
abbrev pub missing_in_head : Kind → Data → Option FileFault
missing_in_head Kind.Group d =
    option_or (missing_if (lacks (codes "groups") d) Field.Groups)
    (option_or (missing_if (lacks (codes "pots") d) Field.Pots)
    (missing_if (lacks (codes "teams") d) Field.Teams))
missing_in_head Kind.Pairing d = missing_if (lacks (codes "teams") d) Field.Teams

-- in a team, in a pairing the letter of its first-round group
abbrev pub missing_letter : Kind → Data → Option FileFault
missing_letter Kind.Group d = None
missing_letter Kind.Pairing d = missing_if (lacks (codes "group") d) Field.Group

-- in one element of `teams`; one that is no object lacks nothing
abbrev pub missing_in_team : Kind → Data → Option FileFault
missing_in_team kind d = if not (is_object d) then None else
    option_or (missing_if (lacks (codes "code") d) Field.Code)
    (option_or (missing_if (lacks (codes "pot") d) Field.Pot)
    (option_or (missing_if (lacks (codes "tags") d) Field.Tags)
    (missing_letter kind d)))

-- in a limit
abbrev pub missing_in_limit : Data → Option FileFault
missing_in_limit d = if not (is_object d) then None else
    option_or (missing_if (lacks (codes "tag") d) Field.Tag)
    (option_or (missing_if (lacks (codes "lo") d) Field.Lo)
    (missing_if (lacks (codes "hi") d) Field.Hi))

-- in a fixed place
abbrev pub missing_in_place : Data → Option FileFault
missing_in_place d = if not (is_object d) then None else
    option_or (missing_if (lacks (codes "code") d) Field.Code)
    (option_or (missing_if (lacks (codes "group") d) Field.Group)
    (missing_if (lacks (codes "position") d) Field.Position))

-- in the elements of a list, one after the other; where there is no list, nothing lacks
abbrev pub missing_in_each : (Data → Option FileFault) → List Data → Option FileFault
missing_in_each fault [] = None
missing_in_each fault (d ∷ ds) = option_or (fault d) (missing_in_each fault ds)

abbrev pub missing_in_list : (Data → Option FileFault) → Option (List Data) → Option FileFault
missing_in_list fault None = None
missing_in_list fault (Some ds) = missing_in_each fault ds

-- in the lists that a group draw has besides its teams
abbrev pub missing_in_more : Kind → Data → Option FileFault
missing_in_more Kind.Group d =
    option_or (missing_in_list missing_in_limit (list_in (codes "limits") d))
    (missing_in_list missing_in_place (list_in (codes "places") d))
missing_in_more Kind.Pairing d = None

abbrev pub missing_fault : Kind → Data → Option FileFault
missing_fault kind d =
    option_or (missing_in_head kind d)
    (option_or (missing_in_list (missing_in_team kind) (list_in (codes "teams") d))
    (missing_in_more kind d))

-- ---- 5 FieldWrong: the fields, or the first member of another form or range

abbrev pub or_wrong : {A : Type 0} → Option A → Field → Result A FileFault
or_wrong value field = ok_or value (FileFault.FieldWrong field)

-- a name is a text or absent
abbrev pub name_in : Data → Option (Option (List ℕ))
name_in d =
    if lacks (codes "name") d then Some None
    else option_map (λ text. Some text) (text_in (codes "name") d)

-- the pot of a team, one of so many, which count from 1
abbrev pub pot_in : ℕ → Data → Option ℕ
pot_in pots d =
    option_and_then (λ n. where_true (nat_le 1 n && nat_le n pots) n) (number_in (codes "pot") d)

-- the letter of a team's first-round group, where teams of the kind have one
abbrev pub letter_in : Kind → Data → Option (Option ℕ)
letter_in Kind.Group d = Some None
letter_in Kind.Pairing d =
    option_map (λ letter. Some letter) (option_and_then letter_of (text_in (codes "group") d))

abbrev pub team_fields : Kind → ℕ → Data → Result TeamFields FileFault
team_fields kind pots d =
    after (or_wrong (text_in (codes "code") d) Field.Code) (λ code.
    after (or_wrong (name_in d) Field.Name) (λ name.
    after (or_wrong (pot_in pots d) Field.Pot) (λ pot.
    after (or_wrong (tags_in (codes "tags") d) Field.Tags) (λ tags.
    after (or_wrong (letter_in kind d) Field.Group) (λ letter.
    Ok (record { code = code; name = name; pot = pot; tags = tags; group_letter = letter }))))))

abbrev pub all_team_fields : Kind → ℕ → List Data → Result (List TeamFields) FileFault
all_team_fields kind pots [] = Ok []
all_team_fields kind pots (d ∷ ds) =
    after (team_fields kind pots d) (λ team.
    after (all_team_fields kind pots ds) (λ teams. Ok (team ∷ teams)))

-- a list of objects
abbrev pub objects_in : List ℕ → Data → Option (List Data)
objects_in name d = option_and_then (λ ds. where_true (list_all is_object ds) ds) (list_in name d)

-- a list of two texts
abbrev pub pair_of_texts : List Data → Option HeadPair
pair_of_texts [] = None
pair_of_texts (a ∷ []) = None
pair_of_texts (a ∷ b ∷ []) =
    option_and_then (λ first.
    option_map (λ second. record { first = first; second = second }) (as_str b)) (as_str a)
pair_of_texts (a ∷ b ∷ c ∷ ds) = None

abbrev pub pairs_of_texts : List Data → Option (List HeadPair)
pairs_of_texts [] = Some []
pairs_of_texts (d ∷ ds) =
    option_and_then (λ pair.
    option_map (λ pairs. pair ∷ pairs) (pairs_of_texts ds))
    (option_and_then pair_of_texts (list_of d))

-- an absent list is empty
abbrev pub pairs_in : Data → Option (List HeadPair)
pairs_in d =
    if lacks (codes "pairs") d then Some []
    else option_and_then pairs_of_texts (list_in (codes "pairs") d)

-- How many groups and pots there are, at least one. A pairing has no groups, and two pots: the winners and the runners-up.
abbrev pub groups_in : Kind → Data → Option ℕ
groups_in Kind.Group d = positive_in (codes "groups") d
groups_in Kind.Pairing d = Some 0

abbrev pub pots_in : Kind → Data → Option ℕ
pots_in Kind.Group d = positive_in (codes "pots") d
pots_in Kind.Pairing d = Some 2

-- values, each read behind the earlier ones
abbrev pub read_behind : {A : Type 0} → (List A → Data → Result A FileFault)
    → List A → List Data → Result (List A) FileFault
read_behind read earlier [] = Ok earlier
read_behind read earlier (d ∷ ds) =
    after (read earlier d) (λ a. read_behind read (earlier ++ a ∷ []) ds)

-- a list of objects in a member, each read behind the earlier ones; an absent list is empty
abbrev pub list_read : {A : Type 0} → List ℕ → Field → (List A → Data → Result A FileFault)
    → Data → Result (List A) FileFault
list_read name field read d =
    if lacks name d then Ok [] else after (or_wrong (objects_in name d) field) (read_behind read [])

-- how many teams with its tag a limit may ask
abbrev pub most_holders : ℕ
most_holders = 64

-- the tag of a limit, which no earlier one has
abbrev pub has_limit : List HeadLimit → List ℕ → Bool
has_limit limits tag = list_any (λ limit. bytes_eq limit.tag tag) limits

abbrev pub new_tag_in : List HeadLimit → Data → Option (List ℕ)
new_tag_in earlier d =
    option_and_then (λ tag. where_true (not (has_limit earlier tag)) tag)
    (option_and_then tag_of (get (codes "tag") d))

-- the lower bound of a limit, and the upper one, which is not below it
abbrev pub lo_in : Data → Option ℕ
lo_in d = number_to most_holders (codes "lo") d

abbrev pub hi_in : ℕ → Data → Option ℕ
hi_in lo d =
    option_and_then (λ hi. where_true (nat_le lo hi) hi) (number_to most_holders (codes "hi") d)

-- one limit behind the earlier ones
abbrev pub limit_fields : List HeadLimit → Data → Result HeadLimit FileFault
limit_fields earlier d =
    after (or_wrong (new_tag_in earlier d) Field.Tag) (λ tag.
    after (or_wrong (lo_in d) Field.Lo) (λ lo.
    after (or_wrong (hi_in lo d) Field.Hi) (λ hi.
    Ok (record { tag = tag; lo = lo; hi = hi }))))

-- The limits of the tags. A pairing has none.
abbrev pub limits_in : Kind → Data → Result (List HeadLimit) FileFault
limits_in Kind.Group d = list_read (codes "limits") Field.Limits limit_fields d
limits_in Kind.Pairing d = Ok []

-- one fixed place, whatever the earlier ones: the text of a code, the letter of a group and a position
abbrev pub place_fields : List HeadPlace → Data → Result HeadPlace FileFault
place_fields earlier d =
    after (or_wrong (text_in (codes "code") d) Field.Code) (λ code.
    after (or_wrong (option_and_then letter_of (text_in (codes "group") d)) Field.Group) (λ group.
    after (or_wrong (positive_in (codes "position") d) Field.Position) (λ position.
    Ok (record { code = code; group = group; position = position }))))

-- The fixed places. A pairing has none.
abbrev pub places_in : Kind → Data → Result (List HeadPlace) FileFault
places_in Kind.Group d = list_read (codes "places") Field.Places place_fields d
places_in Kind.Pairing d = Ok []

abbrev pub head_fields : Kind → Data → Result HeadFields FileFault
head_fields kind d =
    after (or_wrong (groups_in kind d) Field.Groups) (λ groups.
    after (or_wrong (pots_in kind d) Field.Pots) (λ pots.
    after (or_wrong (objects_in (codes "teams") d) Field.Teams) (λ objects.
    after (all_team_fields kind pots objects) (λ teams.
    after (limits_in kind d) (λ limits.
    after (or_wrong (pairs_in d) Field.Pairs) (λ pairs.
    after (places_in kind d) (λ places.
    Ok (record {
      groups = groups;
      pots = pots;
      teams = teams;
      limits = limits;
      pairs = pairs;
      places = places;
    }))))))))

-- ---- 6 TooMany: the first number past its limit: of groups and of pots, and the length of each list

abbrev pub most_groups : ℕ
most_groups = 8

abbrev pub most_pots : ℕ
most_pots = 4

abbrev pub most_teams : ℕ
most_teams = 40

abbrev pub most_limits : ℕ
most_limits = 16

abbrev pub most_pairs : ℕ
most_pairs = 64

abbrev pub most_places : ℕ
most_places = 40

abbrev pub too_many_if : ℕ → Field → ℕ → Option FileFault
too_many_if most what number =
    if nat_lt most number then Some (FileFault.TooMany what number) else None

abbrev pub too_many_of : (groups pots teams limits pairs places : ℕ) → Option FileFault
too_many_of groups pots teams limits pairs places =
    option_or (too_many_if most_groups Field.Groups groups)
    (option_or (too_many_if most_pots Field.Pots pots)
    (option_or (too_many_if most_teams Field.Teams teams)
    (option_or (too_many_if most_limits Field.Limits limits)
    (option_or (too_many_if most_pairs Field.Pairs pairs)
    (too_many_if most_places Field.Places places)))))

abbrev pub too_many_fault : HeadFields → Option FileFault
too_many_fault fields =
    too_many_of fields.groups fields.pots (length fields.teams)
    (length fields.limits) (length fields.pairs) (length fields.places)

-- ---- 7 BadCode: the teams, or the first one whose code is not a code, counted from i

-- where there is no name, the code stands for it
abbrev pub name_of : List ℕ → Option (List ℕ) → List ℕ
name_of code None = code
name_of code (Some name) = name

abbrev pub team_of : ℕ → TeamFields → Result Team FileFault
team_of place fields =
    if is_code fields.code
    then Ok (record {
      code = fields.code;
      name = name_of fields.code fields.name;
      pot = fields.pot;
      tags = fields.tags;
      group_letter = fields.group_letter;
    })
    else Err (FileFault.BadCode place)

abbrev pub teams_from : ℕ → List TeamFields → Result (List Team) FileFault
teams_from i [] = Ok []
teams_from i (f ∷ fs) =
    after (team_of i f) (λ team. after (teams_from (i + 1) fs) (λ teams. Ok (team ∷ teams)))

-- ---- 8 SameCode: the first team whose code an earlier team has

abbrev pub same_code_from : List Team → List Team → Option FileFault
same_code_from earlier [] = None
same_code_from earlier (t ∷ ts) =
    if is_some (find_from t.code earlier 0) then Some (FileFault.SameCode t.code)
    else same_code_from (earlier ++ t ∷ []) ts

abbrev pub same_code_fault : List Team → Option FileFault
same_code_fault teams = same_code_from [] teams

-- the teams with their codes, or the first fault of these
abbrev pub teams_of : List TeamFields → Result (List Team) FileFault
teams_of all = after (teams_from 0 all) (λ teams. unless (same_code_fault teams) (Ok teams))

-- ---- 9 PotSize

abbrev pub pot_size : ℕ → List Team → ℕ
pot_size pot teams = count_by (λ t. t.pot == pot) teams

-- of so many pots from `pot` on, the first whose size is not the number of groups
abbrev pub first_uneven : (ℕ → ℕ) → ℕ → ℕ → ℕ → Option FileFault
first_uneven size groups pot zero = None
first_uneven size groups pot (suc more) =
    if size pot == groups then first_uneven size groups (pot + 1) more
    else Some (FileFault.PotSize pot (size pot))

-- In a head with so many groups and pots. Of a group draw: the first pot that has not one team for each group. Of a
-- pairing: pot 1 is empty, or pot 2 is not of its size.
abbrev pub pot_size_fault : Kind → ℕ → ℕ → List Team → Option FileFault
pot_size_fault Kind.Group groups pots teams =
    first_uneven (λ pot. pot_size pot teams) groups 1 pots
pot_size_fault Kind.Pairing groups pots teams =
    if pot_size 1 teams == 0 then Some (FileFault.PotSize 1 0) else (
    if pot_size 2 teams == pot_size 1 teams
    then None
    else Some (FileFault.PotSize 2 (pot_size 2 teams)))

-- ---- the head, or the first of its faults in the order of their numbers

-- the head with these members, and these teams made of them
abbrev pub head_with : Kind → HeadFields → List Team → Head
head_with kind fields teams =
    head_from kind fields.groups fields.pots teams fields.limits fields.pairs fields.places

abbrev pub head_of : Data → Result Head FileFault
head_of d =
    unless (object_fault d) (
    after (kind_of d) (λ kind.
    unless (missing_fault kind d) (
    after (head_fields kind d) (λ fields.
    unless (too_many_fault fields) (
    after (teams_from 0 fields.teams) (λ teams.
    unless (same_code_fault teams) (
    unless (pot_size_fault kind fields.groups fields.pots teams) (
    Ok (head_with kind fields teams)))))))))

-- The head was read of some JSON value, so that none of the faults of a head holds of it.
abbrev pub IsReadHead : Head → Type 0
IsReadHead head = (d : Data) × (head_of d ≡ Ok head)

-- The bytes are those of this head.
abbrev pub IsHead : List ℕ → Head → Type 0
IsHead bytes head = (d : Data) × IsJson bytes d × (head_of d ≡ Ok head)

-- The bytes are no head, and this is their first fault.
abbrev pub IsHeadFault : List ℕ → FileFault → Type 0
IsHeadFault bytes fault =
    IsJsonFault bytes fault ⊎ ((d : Data) × IsJson bytes d × (head_of d ≡ Err fault))
