-- The table of a head's faults: when each holds of a value, and which is told first (this project's own).
use Rattle.std.specs.Prelude.{◌≡◌, ◌≢◌, ℕ, ◌<◌, ◌≤◌, ◌↔◌, ◌==◌, not, codes, if◌then◌else◌, Bool, true, false, List, [], ◌∷◌, map, length, position, count_by, Option, Some, None, is_none, unwrap_or, option_and_then, Ok, Err}
use Rattle.std.specs.Option.{option_or}
use Rattle.std.specs.Result.{result_err}
use Rattle.serde_json.specs.Data.{Data}
use Rattle.team_files.specs.declared.kind.Kind.{Kind}
use Rattle.team_files.specs.declared.fault.Field.{Field}
use Rattle.team_files.specs.declared.fault.FileFault.{FileFault}
use Rattle.team_files.specs.Characters.{is_code}
use Rattle.team_files.specs.Kinds.{kind_named, is_not_built}
use Rattle.team_files.specs.Members.{lacks, is_object, text_in, list_in, tags_in}
use Rattle.team_files.specs.Heads.{Head, name_in, pot_in, letter_in, groups_in, pots_in, objects_in, limits_in, pairs_in, places_in, missing_fault, too_many_of, head_of}
use Rattle.team_files.specs.Codes.{IsFirstRepeat}

-- ---- what a value says

-- the elements of a list; none where there is no list
abbrev pub values_in : List ℕ → Data → List Data
values_in name d = unwrap_or (list_in name d) []

abbrev pub team_values : Data → List Data
team_values d = values_in (codes "teams") d

abbrev pub pair_values : Data → List Data
pair_values d = values_in (codes "pairs") d

-- The kind and the numbers of groups and pots, which later faults go by. A value that gives none has that fault first, and
-- its later faults are those of a pairing, or of a head without groups or pots.
abbrev pub kind_at : Data → Kind
kind_at d = unwrap_or (option_and_then kind_named (text_in (codes "kind") d)) Kind.Pairing

abbrev pub groups_at : Data → ℕ
groups_at d = unwrap_or (groups_in (kind_at d) d) 0

abbrev pub pots_at : Data → ℕ
pots_at d = unwrap_or (pots_in (kind_at d) d) 0

-- the elements of `limits` and of `places`; a pairing has none
abbrev pub limit_values_by : Kind → Data → List Data
limit_values_by Kind.Group d = values_in (codes "limits") d
limit_values_by Kind.Pairing d = []

abbrev pub place_values_by : Kind → Data → List Data
place_values_by Kind.Group d = values_in (codes "places") d
place_values_by Kind.Pairing d = []

abbrev pub limit_values : Data → List Data
limit_values d = limit_values_by (kind_at d) d

abbrev pub place_values : Data → List Data
place_values d = place_values_by (kind_at d) d

-- the codes, the pots and the tags of the teams, in file order
abbrev pub code_at : Data → List ℕ
code_at team = unwrap_or (text_in (codes "code") team) []

abbrev pub pot_at : ℕ → Data → ℕ
pot_at pots team = unwrap_or (pot_in pots team) 0

abbrev pub tags_at : Data → List (List ℕ)
tags_at team = unwrap_or (tags_in (codes "tags") team) []

abbrev pub codes_in : Data → List (List ℕ)
codes_in d = map code_at (team_values d)

abbrev pub team_pots : Data → List ℕ
team_pots d = map (pot_at (pots_at d)) (team_values d)

abbrev pub team_tags : Data → List (List (List ℕ))
team_tags d = map tags_at (team_values d)

-- ---- 2 NotObject

abbrev pub IsNotObject : Data → Type 0
IsNotObject d = is_object d ≡ false

-- ---- what is wrong with the kind: 4 and 5 of `kind`, 3 KindUnknown, 14 KindNotBuilt

abbrev pub LacksKind : Data → Type 0
LacksKind d = lacks (codes "kind") d ≡ true

abbrev pub HasWrongKind : Data → Type 0
HasWrongKind d = (lacks (codes "kind") d ≡ false) × (text_in (codes "kind") d ≡ None)

abbrev pub HasKind : Data → List ℕ → Type 0
HasKind d text = text_in (codes "kind") d ≡ Some text

abbrev pub HasUnknownKind : Data → List ℕ → Type 0
HasUnknownKind d text = HasKind d text × (kind_named text ≡ None) × (is_not_built text ≡ false)

abbrev pub HasKindNotBuilt : Data → Type 0
HasKindNotBuilt d = (text : List ℕ) × HasKind d text × (is_not_built text ≡ true)

-- ---- 4 FieldMissing: the first needed member that is absent, in the head and then in each team, limit and place

abbrev pub MissesField : Data → Field → Type 0
MissesField d member = missing_fault (kind_at d) d ≡ Some (FileFault.FieldMissing member)

-- ---- 5 FieldWrong: the first member of another form or range; the members of each element follow its list, and `pairs`
-- ---- stand between the limits and the places

abbrev pub wrong_if : Bool → Field → Option FileFault
wrong_if wrong field = if wrong then Some (FileFault.FieldWrong field) else None

abbrev pub wrong_in_team : Kind → ℕ → Data → Option FileFault
wrong_in_team kind pots d =
    option_or (wrong_if (is_none (text_in (codes "code") d)) Field.Code)
    (option_or (wrong_if (is_none (name_in d)) Field.Name)
    (option_or (wrong_if (is_none (pot_in pots d)) Field.Pot)
    (option_or (wrong_if (is_none (tags_in (codes "tags") d)) Field.Tags)
    (wrong_if (is_none (letter_in kind d)) Field.Group))))

abbrev pub wrong_in_teams : Kind → ℕ → List Data → Option FileFault
wrong_in_teams kind pots [] = None
wrong_in_teams kind pots (d ∷ ds) =
    option_or (wrong_in_team kind pots d) (wrong_in_teams kind pots ds)

abbrev pub wrong_fault : Kind → Data → Option FileFault
wrong_fault kind d =
    option_or (wrong_if (is_none (groups_in kind d)) Field.Groups)
    (option_or (wrong_if (is_none (pots_in kind d)) Field.Pots)
    (option_or (wrong_if (is_none (objects_in (codes "teams") d)) Field.Teams)
    (option_or (wrong_in_teams kind (pots_at d) (team_values d))
    (option_or (result_err (limits_in kind d))
    (option_or (wrong_if (is_none (pairs_in d)) Field.Pairs)
    (result_err (places_in kind d)))))))

abbrev pub HasWrongField : Data → Field → Type 0
HasWrongField d member = wrong_fault (kind_at d) d ≡ Some (FileFault.FieldWrong member)

-- ---- 6 TooMany: the first number past its limit, in the order groups, pots, teams, limits, pairs, places

abbrev pub HasTooMany : Data → Field → ℕ → Type 0
HasTooMany d what number =
    too_many_of (groups_at d) (pots_at d) (length (team_values d))
    (length (limit_values d)) (length (pair_values d)) (length (place_values d))
    ≡ Some (FileFault.TooMany what number)

-- ---- 7 BadCode: the first team whose code is not a code

abbrev pub HasBadCode : Data → ℕ → Type 0
HasBadCode d place = position (λ code. not (is_code code)) (codes_in d) ≡ Some place

-- ---- 8 SameCode: the code of the first team whose code an earlier team has

abbrev pub HasSameCode : Data → List ℕ → Type 0
HasSameCode d code = (place : ℕ) × IsFirstRepeat (codes_in d) place code

-- ---- 9 PotSize: of a group draw, the first pot that has not one team for each group; of a pairing, pot 1 is empty, or else
-- ---- pot 2 is not of its size

abbrev pub size_of_pot : ℕ → Data → ℕ
size_of_pot pot d = count_by (λ p. p == pot) (team_pots d)

abbrev pub pot_size_of : ℕ → ℕ → Option FileFault
pot_size_of winners runners_up =
    if winners == 0 then Some (FileFault.PotSize 1 0) else (
    if runners_up == winners then None else Some (FileFault.PotSize 2 runners_up))

-- the first pot that has not one team for each group, and how many it has
pub record IsFirstUneven (d : Data) (pot number : ℕ) : Type 0 where
  pub is_pot : (1 ≤ pot) × (pot ≤ pots_at d)
  pub size : number ≡ size_of_pot pot d
  pub uneven : number ≢ groups_at d
  pub first : (k : ℕ) → 1 ≤ k → k < pot → size_of_pot k d ≡ groups_at d

abbrev pub HasPotSizeBy : Kind → Data → ℕ → ℕ → Type 0
HasPotSizeBy Kind.Group d pot number = IsFirstUneven d pot number
HasPotSizeBy Kind.Pairing d pot number =
    pot_size_of (size_of_pot 1 d) (size_of_pot 2 d) ≡ Some (FileFault.PotSize pot number)

abbrev pub HasPotSize : Data → ℕ → ℕ → Type 0
HasPotSize d = HasPotSizeBy (kind_at d) d

-- ---- the table

abbrev pub HoldsMissing : Data → Field → Type 0
HoldsMissing d Field.Kind = LacksKind d
HoldsMissing d member = MissesField d member

abbrev pub HoldsWrong : Data → Field → Type 0
HoldsWrong d Field.Kind = HasWrongKind d
HoldsWrong d member = HasWrongField d member

-- When a fault holds of a value, whatever other faults hold of it. NotJson is told of bytes that are no value; UnknownTag,
-- BadPair and BadPlace of a head's tags, pairs and places, which are looked up later; and NoMemory of no value.
abbrev pub Holds : Data → FileFault → Type 0
Holds d FileFault.NotJson = ⊥
Holds d FileFault.NotObject = IsNotObject d
Holds d (FileFault.KindUnknown text) = HasUnknownKind d text
Holds d (FileFault.FieldMissing member) = HoldsMissing d member
Holds d (FileFault.FieldWrong member) = HoldsWrong d member
Holds d (FileFault.TooMany what number) = HasTooMany d what number
Holds d (FileFault.BadCode place) = HasBadCode d place
Holds d (FileFault.SameCode code) = HasSameCode d code
Holds d (FileFault.PotSize pot number) = HasPotSize d pot number
Holds d (FileFault.UnknownTag place) = ⊥
Holds d (FileFault.BadPair place) = ⊥
Holds d (FileFault.BadPlace place) = ⊥
Holds d FileFault.NoMemory = ⊥
Holds d FileFault.KindNotBuilt = HasKindNotBuilt d

-- The order in which faults are told: that of their numbers, and what is wrong with the kind stands at 3.
abbrev pub order_of_field : Field → ℕ → ℕ
order_of_field Field.Kind number = 3
order_of_field member number = number

abbrev pub order_of : FileFault → ℕ
order_of FileFault.NotJson = 1
order_of FileFault.NotObject = 2
order_of (FileFault.KindUnknown text) = 3
order_of FileFault.KindNotBuilt = 3
order_of (FileFault.FieldMissing member) = order_of_field member 4
order_of (FileFault.FieldWrong member) = order_of_field member 5
order_of (FileFault.TooMany what number) = 6
order_of (FileFault.BadCode place) = 7
order_of (FileFault.SameCode code) = 8
order_of (FileFault.PotSize pot number) = 9
order_of (FileFault.UnknownTag place) = 10
order_of (FileFault.BadPair place) = 11
order_of (FileFault.BadPlace place) = 12
order_of FileFault.NoMemory = 13

-- The first fault of a value: it holds, and no fault that holds is told before it.
pub record IsFirstFault (d : Data) (fault : FileFault) : Type 0 where
  pub holds : Holds d fault
  pub first : (other : FileFault) → Holds d other → order_of fault ≤ order_of other

-- Reading a value as a head tells its first fault, and gives a head exactly where no fault holds.
pub record TellsFirstFault : Type 0 where
  pub fault : (d : Data) (fault : FileFault) → (head_of d ≡ Err fault) ↔ IsFirstFault d fault
  pub head : (d : Data)
      → ((head : Head) × (head_of d ≡ Ok head)) ↔ ((fault : FileFault) → ¬ Holds d fault)
