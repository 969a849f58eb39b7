-- Fixed places that their team can't take, or that are fixed twice.
use Rattle.std.specs.Prelude.{◌≡◌, ◌≢◌, ℕ, ◌<◌, ◌≤◌, ◌↔◌, List, map, slice_get, Some, Err}
use Rattle.team_files.specs.declared.fault.FileFault.{FileFault}
use Rattle.team_files.specs.declared.head_place.HeadPlace.{HeadPlace}
use Rattle.team_files.specs.declared.kind.Kind.{Kind}
use Rattle.team_files.specs.Codes.{codes_of, HasCodeAt}
use Rattle.team_files.specs.Heads.{Head, IsReadHead}
use Rattle.rule_sets.specs.Files.{group_of_letter, places_of}

-- What the places of a head are looked up in: the codes and the pots of its teams, in file order, and how many groups and
-- pots there are.
pub record Setting : Type 0 where
  pub codes : List (List ℕ)
  pub team_pots : List ℕ
  pub groups : ℕ
  pub pots : ℕ

-- both places have the same group and position
pub record IsSamePlace (one other : HeadPlace) : Type 0 where
  pub group : group_of_letter one.group ≡ group_of_letter other.group
  pub position : one.position ≡ other.position

-- The place at k is right in the setting, whatever is behind it.
pub record IsRightPlace (s : Setting) (places : List HeadPlace) (k : ℕ) (place : HeadPlace) : Type 0 where
  -- its code is a team's, which stands at position 1 exactly where it is of pot 1
  pub team : (t : ℕ) × (pot : ℕ) × HasCodeAt s.codes t place.code
      × (slice_get s.team_pots t ≡ Some pot) × ((pot ≡ 1) ↔ (place.position ≡ 1))
  -- its letter is within the groups, and its position within the pots
  pub group : group_of_letter place.group < s.groups
  pub position : place.position ≤ s.pots
  -- no earlier place has its team, or its group and position
  pub new_team : (i : ℕ) (earlier : HeadPlace)
      → i < k → slice_get places i ≡ Some earlier → earlier.code ≢ place.code
  pub new_place : (i : ℕ) (earlier : HeadPlace)
      → i < k → slice_get places i ≡ Some earlier → ¬ IsSamePlace earlier place

-- The first place, counted from 0, that is not right.
pub record IsFirstWrongPlace (s : Setting) (places : List HeadPlace) (place : ℕ) : Type 0 where
  pub wrong : (named : HeadPlace)
      × (slice_get places place ≡ Some named) × ¬ IsRightPlace s places place named
  pub first : (k : ℕ) (named : HeadPlace)
      → k < place → slice_get places k ≡ Some named → IsRightPlace s places k named

-- the setting of a head
abbrev pub setting_of : Head → Setting
setting_of head = record {
  codes = codes_of head.teams;
  team_pots = map (λ t. t.pot) head.teams;
  groups = head.groups;
  pots = head.pots;
}

-- Looking up the places of the head of a group draw refuses exactly the first wrong one.
abbrev pub TellsFirstBadPlace : Type 0
TellsFirstBadPlace = (head : Head) (fault : FileFault) → IsReadHead head
    → (places_of Kind.Group head ≡ Err fault)
    ↔ ((place : ℕ) × (fault ≡ FileFault.BadPlace place)
    × IsFirstWrongPlace (setting_of head) head.places place)
