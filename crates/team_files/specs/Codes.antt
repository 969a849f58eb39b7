-- Codes in file order: which team has a code, and which code stands twice.
use Rattle.std.specs.Prelude.{◌≡◌, ℕ, ◌<◌, ◌↔◌, List, map, slice_get, Some, None}
use Rattle.team_files.specs.declared.fault.FileFault.{FileFault}
use Rattle.team_files.specs.declared.team.Team.{Team}
use Rattle.team_files.specs.declared.team_id.TeamId.{TeamId}
use Rattle.team_files.specs.Teams.{find, HaveDistinctCodes}
use Rattle.team_files.specs.Heads.{same_code_fault}

-- the codes of teams, in their order
abbrev pub codes_of : List Team → List (List ℕ)
codes_of teams = map (λ t. t.code) teams

-- the code at a place, counted from 0
abbrev pub HasCodeAt : List (List ℕ) → ℕ → List ℕ → Type 0
HasCodeAt codes place code = slice_get codes place ≡ Some code

-- no code stands at two places
abbrev pub AreDifferent : List (List ℕ) → Type 0
AreDifferent codes = (i j : ℕ) (code : List ℕ)
    → HasCodeAt codes i code → HasCodeAt codes j code → i ≡ j

-- the code stands at a place before this one
abbrev pub StandsBefore : List (List ℕ) → ℕ → List ℕ → Type 0
StandsBefore codes place code = (i : ℕ) × (i < place) × HasCodeAt codes i code

-- this is the first place whose code stands before it
pub record IsFirstRepeat (codes : List (List ℕ)) (place : ℕ) (code : List ℕ) : Type 0 where
  pub has : HasCodeAt codes place code
  pub before : StandsBefore codes place code
  pub first : (k : ℕ) (other : List ℕ)
      → k < place → HasCodeAt codes k other → ¬ StandsBefore codes k other

-- What finding a team by its code comes to.
pub record FindsByCode : Type 0 where
  -- where codes are different, it finds exactly the team that has the code
  pub found : (teams : List Team) (code : List ℕ) (id : TeamId) → AreDifferent (codes_of teams)
      → (find code teams ≡ Some id) ↔ HasCodeAt (codes_of teams) id.0 code
  -- and none exactly where no team has it
  pub missing : (teams : List Team) (code : List ℕ)
      → (find code teams ≡ None) ↔ ((place : ℕ) → ¬ HasCodeAt (codes_of teams) place code)
  -- codes are distinct where no two places have one code
  pub distinct : (teams : List Team) → HaveDistinctCodes teams ↔ AreDifferent (codes_of teams)

-- The fault is of the code at the first place whose code stands before it.
abbrev pub IsOfFirstRepeat : List (List ℕ) → FileFault → Type 0
IsOfFirstRepeat codes fault =
    (place : ℕ) × (code : List ℕ)
    × (fault ≡ FileFault.SameCode code) × IsFirstRepeat codes place code

-- What the fault of a code that stands twice comes to.
pub record TellsSameCode : Type 0 where
  -- it names the code at the first place whose code stands before it
  pub some : (teams : List Team) (fault : FileFault)
      → (same_code_fault teams ≡ Some fault) ↔ IsOfFirstRepeat (codes_of teams) fault
  -- and there is none exactly where codes are different
  pub none : (teams : List Team) → (same_code_fault teams ≡ None) ↔ AreDifferent (codes_of teams)
