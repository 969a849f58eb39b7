-- The form of a draw file: what can be read off the file alone. What all kinds share, and what each kind adds.
use Rattle.std.specs.Prelude.{◌≡◌, ◌≢◌, ◌↔◌, ℕ, ◌<◌, ◌≤◌, true, List, [], ◌∷◌, length, slice_get, Some, All, Any, AllPairs}
use Rattle.team_files.specs.declared.kind.Kind.{Kind}
use Rattle.team_files.specs.declared.team.Team.{Team}
use Rattle.team_files.specs.Characters.{is_capital, is_code, is_tag}
use Rattle.team_files.specs.Teams.{HaveDistinctCodes}
use Rattle.team_files.specs.Heads.{most_groups, most_pots, most_teams, most_limits, most_holders, most_pairs, most_places, pot_size}
use Rattle.rule_sets.specs.declared.limit.Limit.{Limit}
use Rattle.rule_sets.specs.declared.pair.Pair.{Pair}
use Rattle.rule_sets.specs.declared.place.Place.{Place}
use Rattle.rule_sets.specs.Files.{DrawFile, IsWellFormed}

-- ---- a team and a pair

-- the team's code is three characters A to Z or 0 to 9
abbrev pub HasCode : Team → Type 0
HasCode team = is_code team.code ≡ true

-- the team stands in one of so many pots, which count from 1
abbrev pub IsInPot : ℕ → Team → Type 0
IsInPot pots team = (1 ≤ team.pot) × (team.pot ≤ pots)

-- one tag or two different ones; a tag is 1 to 16 characters A to Z or 0 to 9
abbrev pub AreTags : List (List ℕ) → Type 0
AreTags [] = ⊥
AreTags (a ∷ []) = is_tag a ≡ true
AreTags (a ∷ b ∷ []) = (is_tag a ≡ true) × (is_tag b ≡ true) × (a ≢ b)
AreTags (a ∷ b ∷ c ∷ tags) = ⊥

abbrev pub HasTags : Team → Type 0
HasTags team = AreTags team.tags

-- the team has the letter, A to Z, of its first-round group
abbrev pub HasLetter : Team → Type 0
HasLetter team = (letter : ℕ) × (team.group_letter ≡ Some letter) × (is_capital letter ≡ true)

-- the pair names two different teams of the list
pub record NamesTwoTeams (teams : List Team) (pair : Pair) : Type 0 where
  pub first : pair.first.0 < length teams
  pub second : pair.second.0 < length teams
  pub different : pair.first.0 ≢ pair.second.0

-- ---- a limit and a fixed place

-- the limit is of a tag, and its bounds are in order and no more than a limit may have
pub record HasLimitForm (limit : Limit) : Type 0 where
  pub tag : is_tag limit.tag ≡ true
  pub order : limit.lo ≤ limit.hi
  pub few : limit.hi ≤ most_holders

-- each tag of the team is that of a limit
abbrev pub HasLimitedTags : List Limit → Team → Type 0
HasLimitedTags limits team = All (λ tag. Any (λ limit. limit.tag ≡ tag) limits) team.tags

-- the place is one of the groups and positions of the file, and position 1 is for the teams of pot 1 alone
pub record IsPlaceIn (file : DrawFile) (place : Place) : Type 0 where
  pub team : place.team.0 < length file.teams
  pub group : place.group < file.groups
  pub position : (1 ≤ place.position) × (place.position ≤ file.pots)
  pub head : (team : Team) → slice_get file.teams place.team.0 ≡ Some team
      → (team.pot ≡ 1) ↔ (place.position ≡ 1)

-- the two places are of different teams, and are different places
pub record AreApart (one other : Place) : Type 0 where
  pub team : one.team.0 ≢ other.team.0
  pub place : one.group ≡ other.group → one.position ≢ other.position

-- ---- the form

-- What the files of all kinds share.
pub record HasCommonForm (file : DrawFile) : Type 0 where
  -- it has no more teams than a file may have, each with a code, and no two have one code
  pub few_teams : length file.teams ≤ most_teams
  pub codes : All HasCode file.teams
  pub distinct_codes : HaveDistinctCodes file.teams
  -- each team stands in a pot and has its tags
  pub in_pots : All (IsInPot file.pots) file.teams
  pub tags : All HasTags file.teams
  -- it forbids no more pairs than a file may, each of two different teams
  pub few_pairs : length file.pairs ≤ most_pairs
  pub pairs : All (NamesTwoTeams file.teams) file.pairs

-- What a pairing's file has besides: two pots, no groups, no limits and no fixed places.
pub record HasPairingForm (file : DrawFile) : Type 0 where
  pub pots : file.pots ≡ 2
  pub groups : file.groups ≡ 0
  pub limits : file.limits ≡ []
  pub places : file.places ≡ []
  -- pot 1, the winners, is not empty, and pot 2, the runners-up, is of its size
  pub not_empty : pot_size 1 file.teams ≢ 0
  pub same_size : pot_size 2 file.teams ≡ pot_size 1 file.teams
  -- each team has the letter of its group
  pub letters : All HasLetter file.teams

-- What a group draw's file has besides.
pub record HasGroupForm (file : DrawFile) : Type 0 where
  -- it has a group and a pot, and no more of them than a file may have
  pub groups : (1 ≤ file.groups) × (file.groups ≤ most_groups)
  pub pots : (1 ≤ file.pots) × (file.pots ≤ most_pots)
  -- each pot has one team for each group
  pub full_pots : (pot : ℕ) → 1 ≤ pot → pot ≤ file.pots → pot_size pot file.teams ≡ file.groups
  -- it has no more limits than a file may have, no two of one tag, and each tag of a team has one
  pub few_limits : length file.limits ≤ most_limits
  pub limits : All HasLimitForm file.limits
  pub distinct_limits : AllPairs (λ one other. one.tag ≢ other.tag) file.limits
  pub limited_tags : All (HasLimitedTags file.limits) file.teams
  -- it fixes no more places than a file may, no team twice and no place twice
  pub few_places : length file.places ≤ most_places
  pub places : All (IsPlaceIn file) file.places
  pub distinct_places : AllPairs AreApart file.places

-- The form of a draw file.
pub record HasForm (file : DrawFile) : Type 0 where
  pub common : HasCommonForm file
  pub group : file.kind ≡ Kind.Group → HasGroupForm file
  pub pairing : file.kind ≡ Kind.Pairing → HasPairingForm file

-- Each well-formed draw file has this form.
abbrev pub FilesHaveForm : Type 0
FilesHaveForm = (file : DrawFile) → IsWellFormed file → HasForm file
