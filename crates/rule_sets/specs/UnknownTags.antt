-- Teams with a tag that no limit names.
use Rattle.std.specs.Prelude.{◌≡◌, ℕ, ◌<◌, ◌↔◌, List, map, slice_get, All, Any, Some}
use Rattle.team_files.specs.declared.fault.FileFault.{FileFault}
use Rattle.team_files.specs.declared.head_limit.HeadLimit.{HeadLimit}
use Rattle.team_files.specs.declared.team.Team.{Team}
use Rattle.rule_sets.specs.Files.{unknown_tag_from}

-- the tag is that of a limit
abbrev pub IsLimited : List HeadLimit → List ℕ → Type 0
IsLimited limits tag = Any (λ limit. limit.tag ≡ tag) limits

-- The first of some lists of tags, counted from 0, that has a tag of no limit.
pub record IsFirstUnknown (limits : List HeadLimit) (lists : List (List (List ℕ))) (place : ℕ) : Type 0 where
  pub unknown : (tags : List (List ℕ))
      × (slice_get lists place ≡ Some tags) × ¬ All (IsLimited limits) tags
  pub first : (k : ℕ) (tags : List (List ℕ))
      → k < place → slice_get lists k ≡ Some tags → All (IsLimited limits) tags

-- the tags of teams, in file order
abbrev pub tags_of : List Team → List (List (List ℕ))
tags_of teams = map (λ t. t.tags) teams

-- Looking up the tags of teams refuses exactly the first team with one that no limit names.
abbrev pub TellsFirstUnknownTag : Type 0
TellsFirstUnknownTag = (limits : List HeadLimit) (teams : List Team) (fault : FileFault)
    → (unknown_tag_from limits 0 teams ≡ Some fault)
    ↔ ((place : ℕ) × (fault ≡ FileFault.UnknownTag place) × IsFirstUnknown limits (tags_of teams) place)
