-- The table of a file's faults over the bytes of its head: when each holds of them, and which is told first.
use Rattle.std.specs.Prelude.{◌≡◌, ℕ, ◌<◌, ◌≤◌, ◌⊎◌, ◌↔◌, List, slice_get, Some, Ok}
use Rattle.serde_json.specs.Data.{Data}
use Rattle.team_files.specs.declared.fault.FileFault.{FileFault}
use Rattle.team_files.specs.declared.head_limit.HeadLimit.{HeadLimit}
use Rattle.team_files.specs.declared.head_pair.HeadPair.{HeadPair}
use Rattle.team_files.specs.declared.head_place.HeadPlace.{HeadPlace}
use Rattle.team_files.specs.declared.kind.Kind.{Kind}
use Rattle.team_files.specs.Codes.{HasCodeAt}
use Rattle.team_files.specs.Heads.{IsJson, IsNotJson, limits_in, pairs_in, places_in}
use Rattle.team_files.specs.Faults.{kind_at, groups_at, pots_at, codes_in, team_pots, team_tags, Holds, order_of}
use Rattle.rule_sets.specs.UnknownTags.{IsFirstUnknown}
use Rattle.rule_sets.specs.BadPlaces.{Setting, IsFirstWrongPlace}
use Rattle.rule_sets.specs.Files.{DrawFile, IsFileOf, IsFileFault}

-- ---- 10 UnknownTag: of a group draw, the first team with a tag that no limit names

abbrev pub HasUnknownTag : Data → ℕ → Type 0
HasUnknownTag d place =
    (kind_at d ≡ Kind.Group) × ((limits : List HeadLimit)
    × (limits_in Kind.Group d ≡ Ok limits) × IsFirstUnknown limits (team_tags d) place)

-- ---- 11 BadPair: the first pair with a text that is no team's code, or with one code twice

-- the text is the code of no team
abbrev pub IsNoCode : List (List ℕ) → List ℕ → Type 0
IsNoCode codes text = (place : ℕ) → ¬ HasCodeAt codes place text

-- a text of the pair is no team's code, or both are one text
abbrev pub NamesNoTwoCodes : List (List ℕ) → HeadPair → Type 0
NamesNoTwoCodes codes pair =
    IsNoCode codes pair.first ⊎ (IsNoCode codes pair.second ⊎ (pair.first ≡ pair.second))

-- the first pair, counted from 0, that names no two codes
pub record IsFirstWrongPair (codes : List (List ℕ)) (pairs : List HeadPair) (place : ℕ) : Type 0 where
  pub wrong : (pair : HeadPair) × (slice_get pairs place ≡ Some pair) × NamesNoTwoCodes codes pair
  pub first : (k : ℕ) (other : HeadPair)
      → k < place → slice_get pairs k ≡ Some other → ¬ NamesNoTwoCodes codes other

-- the value has pairs of texts, and this is the first wrong one
abbrev pub HasBadPair : Data → ℕ → Type 0
HasBadPair d place =
    (pairs : List HeadPair) × (pairs_in d ≡ Some pairs) × IsFirstWrongPair (codes_in d) pairs place

-- ---- 12 BadPlace: of a group draw, the first place that is not right

-- what a value's places are looked up in
abbrev pub setting_in : Data → Setting
setting_in d = record {
  codes = codes_in d;
  team_pots = team_pots d;
  groups = groups_at d;
  pots = pots_at d;
}

abbrev pub HasBadPlace : Data → ℕ → Type 0
HasBadPlace d place =
    (kind_at d ≡ Kind.Group) × ((places : List HeadPlace)
    × (places_in Kind.Group d ≡ Ok places) × IsFirstWrongPlace (setting_in d) places place)

-- ---- the table

-- When a fault holds of a value, whatever other faults hold of it: UnknownTag of its teams' tags, BadPair of its pairs and
-- BadPlace of its places, and the others as `Holds` says.
abbrev pub HoldsOfValue : Data → FileFault → Type 0
HoldsOfValue d (FileFault.UnknownTag place) = HasUnknownTag d place
HoldsOfValue d (FileFault.BadPair place) = HasBadPair d place
HoldsOfValue d (FileFault.BadPlace place) = HasBadPlace d place
HoldsOfValue d fault = Holds d fault

-- When a fault holds of bytes: NotJson where they are read as no value, the others where they hold of the value.
abbrev pub HoldsOfBytes : List ℕ → FileFault → Type 0
HoldsOfBytes bytes FileFault.NotJson = IsNotJson bytes
HoldsOfBytes bytes fault = (d : Data) × IsJson bytes d × HoldsOfValue d fault

-- The first fault of bytes: it holds, and no fault that holds is told before it.
pub record IsFirstFaultOfBytes (bytes : List ℕ) (fault : FileFault) : Type 0 where
  pub holds : HoldsOfBytes bytes fault
  pub first : (other : FileFault) → HoldsOfBytes bytes other → order_of fault ≤ order_of other

-- What bytes are refused for is their first fault, and they have a file exactly where no fault holds.
pub record TellsFirstFaultOfBytes : Type 0 where
  pub fault : (bytes : List ℕ) (fault : FileFault)
      → IsFileFault bytes fault ↔ IsFirstFaultOfBytes bytes fault
  pub file : (bytes : List ℕ)
      → ((file : DrawFile) × IsFileOf bytes file)
      ↔ ((fault : FileFault) → ¬ HoldsOfBytes bytes fault)
