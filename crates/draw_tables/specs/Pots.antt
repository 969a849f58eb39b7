-- Teams by their numbers, by their pots and by their tags; the groups and the pots of a file. In a pairing pot 1 has the winners, pot 2 the runners-up.
use Rattle.std.specs.Prelude.{◌≡◌, ℕ, ◌+◌, ◌-◌, ◌<◌, ◌≤◌, ◌==◌, if◌then◌else◌, nat_eq, bytes_eq, Bool, List, [], ◌∷◌, length, Option, Some, slice_get, option_map}
use Rattle.std.specs.List.{AllByRecursion as Each, list_any, range_with_len}
use Rattle.std.specs.Option.{option_eq}
use Rattle.team_files.specs.declared.team.Team.{Team}
use Rattle.team_files.specs.declared.team_id.TeamId.{TeamId}
use Rattle.rule_sets.specs.Files.{DrawFile}

-- ---- lists of teams

-- the teams that pass the test in file order, where teams are counted from i
abbrev pub teams_from : (Team → Bool) → ℕ → List Team → List TeamId
teams_from test i [] = []
teams_from test i (t ∷ ts) =
    if test t then record { 0 = i } ∷ teams_from test (i + 1) ts else teams_from test (i + 1) ts

-- the teams of a pot in file order, where teams are counted from i
abbrev pub pot_from : ℕ → ℕ → List Team → List TeamId
pot_from pot i ts = teams_from (λ t. t.pot == pot) i ts

-- the teams of a pot, in file order
abbrev pub teams_of_pot : ℕ → DrawFile → List TeamId
teams_of_pot pot file = pot_from pot 0 file.teams

-- the winners of the first-round groups, in file order
abbrev pub winners : DrawFile → List TeamId
winners file = teams_of_pot 1 file

-- the runners-up of the first-round groups, in file order
abbrev pub runners_up : DrawFile → List TeamId
runners_up file = teams_of_pot 2 file

-- the team holds the tag, be it its first or its second
abbrev pub holds : List ℕ → Team → Bool
holds tag team = list_any (bytes_eq tag) team.tags

-- the teams that hold a tag, in file order
abbrev pub teams_with : List ℕ → DrawFile → List TeamId
teams_with tag file = teams_from (holds tag) 0 file.teams

-- ---- one team

-- the team with this number
abbrev pub IsTeam : DrawFile → TeamId → Team → Type 0
IsTeam file id team = slice_get file.teams id.0 ≡ Some team

-- the number is that of a team of the file
abbrev pub IsTeamOf : DrawFile → TeamId → Type 0
IsTeamOf file id = id.0 < length file.teams

-- each is a team of the file
abbrev pub AreTeamsOf : DrawFile → List TeamId → Type 0
AreTeamsOf file ts = Each (λ t. IsTeamOf file t) ts

-- the team's pot; a number that is no team's has none
abbrev pub pot_of : DrawFile → TeamId → Option ℕ
pot_of file t = option_map (λ team. team.pot) (slice_get file.teams t.0)

-- the team is of the pot
abbrev pub is_of_pot : DrawFile → ℕ → TeamId → Bool
is_of_pot file pot t = option_eq nat_eq (pot_of file t) (Some pot)

-- ---- groups, pots and positions

-- the groups of the file by letter, counted from 0
abbrev pub groups_of : DrawFile → List ℕ
groups_of file = range_with_len 0 file.groups

-- the pots of the file, counted from 1
abbrev pub pots_of : DrawFile → List ℕ
pots_of file = range_with_len 1 file.pots

-- the number is one of the file's pots, which count from 1
abbrev pub IsPot : DrawFile → ℕ → Type 0
IsPot file pot = (1 ≤ pot) × (pot ≤ file.pots)

-- the number is one of a group's positions, which count from 1: there are as many as pots
abbrev pub IsPosition : DrawFile → ℕ → Type 0
IsPosition file position = IsPot file position

-- the positions that are drawn by a ball: each but position 1, which the team of pot 1 takes
abbrev pub later_positions : DrawFile → List ℕ
later_positions file = range_with_len 2 (file.pots - 1)
