-- Forbidden pairs that name no two teams.
use Rattle.std.specs.Prelude.{◌≡◌, ℕ, ◌<◌, ◌⊎◌, ◌↔◌, List, slice_get, Some, None, Err}
use Rattle.team_files.specs.declared.fault.FileFault.{FileFault}
use Rattle.team_files.specs.declared.head_pair.HeadPair.{HeadPair}
use Rattle.team_files.specs.declared.team.Team.{Team}
use Rattle.rule_sets.specs.Files.{team_named, pairs_from}

-- a text of the pair is no team's code, or both are one team's
abbrev pub NamesNoPair : List Team → HeadPair → Type 0
NamesNoPair teams pair =
    (team_named teams pair.first ≡ None) ⊎ (
    (team_named teams pair.second ≡ None) ⊎
    (team_named teams pair.first ≡ team_named teams pair.second))

-- the first pair, counted from 0, that names no two teams
pub record IsFirstBadPair (teams : List Team) (pairs : List HeadPair) (place : ℕ) : Type 0 where
  pub bad : (pair : HeadPair) × (slice_get pairs place ≡ Some pair) × NamesNoPair teams pair
  pub first : (k : ℕ) (other : HeadPair)
      → k < place → slice_get pairs k ≡ Some other → ¬ NamesNoPair teams other

-- Looking up the pairs of a head refuses exactly the first bad one.
abbrev pub TellsFirstBadPair : Type 0
TellsFirstBadPair = (teams : List Team) (pairs : List HeadPair) (fault : FileFault)
    → (pairs_from teams 0 pairs ≡ Err fault)
    ↔ ((place : ℕ) × (fault ≡ FileFault.BadPair place) × IsFirstBadPair teams pairs place)
