-- Teams in file order, with distinct codes.
use Rattle.std.specs.Prelude.{◌≡◌, ℕ, ◌+◌, ◌<◌, ◌^◌, if◌then◌else◌, bytes_eq, List, [], ◌∷◌, length, Option, Some, None}
use Rattle.team_files.specs.declared.team.Team.{Team}
use Rattle.team_files.specs.declared.team_id.TeamId.{TeamId}

-- the first team with the code, where teams are counted from i
abbrev pub find_from : List ℕ → List Team → ℕ → Option TeamId
find_from code [] i = None
find_from code (t ∷ ts) i =
    if bytes_eq t.code code then Some (record { 0 = i }) else find_from code ts (i + 1)

-- the team with the code
abbrev pub find : List ℕ → List Team → Option TeamId
find code teams = find_from code teams 0

-- no two teams have one code
abbrev pub HaveDistinctCodes : List Team → Type 0
HaveDistinctCodes [] = Unit {0}
HaveDistinctCodes (t ∷ ts) = (find_from t.code ts 0 ≡ None) × HaveDistinctCodes ts

-- the teams of a file: distinct codes, and few enough that a u32 counts them
pub record AreTeams (teams : List Team) : Type 0 where
  pub distinct : HaveDistinctCodes teams
  pub few : length teams < 2 ^ 32
