-- The table that values and moves give: the groups by the true atoms, the positions by what is
-- known of them, and the least free ones for the other teams, in pot order.
use Rattle.std.specs.Prelude.{◌≡◌, ℕ, ◌+◌, ◌-◌, ◌*◌, ◌<◌, ◌≤◌, ◌==◌, nat_eq, if◌then◌else◌, Bool, true, List, length, map, find, Option, Some, slice_get, slice_index_or, option_map, option_and_then}
use Rattle.std.specs.Option.{option_eq, option_or}
use Rattle.std.specs.List.{AllByRecursion as Each, flat_map, range_with_len}
use Rattle.team_files.specs.declared.team_id.TeamId.{TeamId}
use Rattle.team_files.specs.Heads.{most_groups, most_pots}
use Rattle.rule_sets.specs.declared.place.Place.{Place}
use Rattle.rule_sets.specs.Files.{DrawFile}
use Rattle.rule_sets.specs.Forms.{IsInPot}
use Rattle.count_core.specs.Assignments.{makes_true}
use Rattle.list_counts.specs.Filling.{filled}
use Rattle.draw_tables.specs.declared.group_place.GroupPlace.{GroupPlace}
use Rattle.draw_tables.specs.declared.moves.Move.{Move}
use Rattle.draw_tables.specs.declared.table.Table.{Table}
use Rattle.draw_tables.specs.declared.table.Table.TheVariants.{Group, Pairs}
use Rattle.draw_tables.specs.Pots.{groups_of, is_of_pot, pot_of, pots_of, teams_of_pot, IsTeamOf}
use Rattle.draw_tables.specs.Moves.{position_in}
use Rattle.draw_tables.specs.GroupTables.{group_of, position_of}
use Rattle.group_draw.specs.Encoding.{group_lit}

-- ---- groups

-- the atom of the team and the group, which is one of the file, is true
abbrev pub IsTrueGroup : DrawFile → List Bool → TeamId → ℕ → Type 0
IsTrueGroup file values t group =
    (group < file.groups) × (makes_true values (group_lit file group t) ≡ true)

-- the atom of the team and some group is true
abbrev pub HasTrueGroup : DrawFile → List Bool → TeamId → Type 0
HasTrueGroup file values t = (group : ℕ) × IsTrueGroup file values t group

-- so for each team
abbrev pub HaveTrueGroups : DrawFile → List Bool → Type 0
HaveTrueGroups file values = (t : TeamId) → IsTeamOf file t → HasTrueGroup file values t

-- Each team has a group whose atom is true.
pub record AreTrueGroups (file : DrawFile) (values : List Bool) (groups : List ℕ) : Type 0 where
  pub size : length groups ≡ length file.teams
  pub atoms : (t : TeamId) (group : ℕ)
      → slice_get groups t.0 ≡ Some group → IsTrueGroup file values t group

-- ---- what the positions need of a file and of groups

-- The file has few pots and groups, and each of its teams stands in one of the pots.
pub record HasPots (file : DrawFile) : Type 0 where
  pub few_pots : file.pots ≤ most_pots
  pub few_groups : file.groups ≤ most_groups
  pub teams : Each (IsInPot file.pots) file.teams

-- There is a group for each team, and it is one of the file.
pub record AreGroupsOf (file : DrawFile) (groups : List ℕ) : Type 0 where
  pub size : length groups ≡ length file.teams
  pub within : (k group : ℕ) → slice_get groups k ≡ Some group → group < file.groups

-- ---- positions

-- the team's fixed place
abbrev pub place_of : DrawFile → TeamId → Option Place
place_of file t = find (λ place. place.team.0 == t.0) file.places

-- the position of the team's fixed place
abbrev pub fixed_position : DrawFile → TeamId → Option ℕ
fixed_position file t = option_map (λ place. place.position) (place_of file t)

-- The position that is known of a team: 1 for the teams of pot 1, else that of its ball, else that
-- of its fixed place.
abbrev pub wish_of : DrawFile → List Move → TeamId → Option ℕ
wish_of file ms t =
    if is_of_pot file 1 t then Some 1 else option_or (position_in ms t) (fixed_position file t)

-- the first of the teams that has the group, where the groups are by team
abbrev pub first_in : List ℕ → ℕ → List TeamId → Option TeamId
first_in groups group teams =
    find (λ t. option_eq nat_eq (slice_get groups t.0) (Some group)) teams

-- the team of the pot that has the group
abbrev pub team_in : DrawFile → List ℕ → ℕ → ℕ → Option TeamId
team_in file groups group pot = first_in groups group (teams_of_pot pot file)

-- what is known of the position of that team
abbrev pub wish_in : DrawFile → List Move → List ℕ → ℕ → ℕ → Option ℕ
wish_in file ms groups group pot = option_and_then (wish_of file ms) (team_in file groups group pot)

-- what is known of the positions of a group's teams, in pot order
abbrev pub wishes_in : DrawFile → List Move → List ℕ → ℕ → List (Option ℕ)
wishes_in file ms groups group = map (wish_in file ms groups group) (pots_of file)

-- the group of each team of a table
abbrev pub given_groups : List GroupPlace → List ℕ
given_groups table = map (λ place. place.group) table

-- the position that filling its group gives the team of the pot
abbrev pub position_for : DrawFile → List Move → List ℕ → ℕ → ℕ → ℕ
position_for file ms groups group pot =
    slice_index_or (filled (wishes_in file ms groups group)) (pot - 1) 0

-- Each team of the group has the position that filling gives the team of its pot.
abbrev pub ArePlacesFilled : DrawFile → List Move → List GroupPlace → Type 0
ArePlacesFilled file ms table = (t : TeamId) (group pot : ℕ)
    → group_of table t ≡ Some group → pot_of file t ≡ Some pot
    → position_of table t ≡ Some (position_for file ms (given_groups table) group pot)

-- the pot of the team with this number
abbrev pub pot_at : DrawFile → ℕ → ℕ
pot_at file i = slice_index_or (map (λ t. t.pot) file.teams) i 0

-- the group at this number
abbrev pub group_at : List ℕ → ℕ → ℕ
group_at groups i = slice_index_or groups i 0

-- the positions of all groups, one group after the other
abbrev pub fillings : DrawFile → List Move → List ℕ → List ℕ
fillings file ms groups =
    flat_map (λ group. filled (wishes_in file ms groups group)) (groups_of file)

-- where the team with this number stands: in its group, at the position that filling gives it
abbrev pub place_at : DrawFile → List Move → List ℕ → ℕ → GroupPlace
place_at file ms groups i = record {
  group = group_at groups i;
  position = position_for file ms groups (group_at groups i) (pot_at file i);
}

-- the same, where the positions of all groups are at hand
abbrev pub place_from : DrawFile → List ℕ → List ℕ → ℕ → GroupPlace
place_from file groups positions i = record {
  group = group_at groups i;
  position = slice_index_or positions (group_at groups i * file.pots + (pot_at file i - 1)) 0;
}

-- and so the places of all teams
abbrev pub places_from : DrawFile → List ℕ → List ℕ → List GroupPlace
places_from file groups positions =
    map (place_from file groups positions) (range_with_len 0 (length file.teams))

-- the places of all teams, which have these groups
abbrev pub filled_places : DrawFile → List Move → List ℕ → List GroupPlace
filled_places file ms groups = map (place_at file ms groups) (range_with_len 0 (length file.teams))

-- ---- tables

-- The groups of the table are those whose atoms are true.
abbrev pub IsReadTable : DrawFile → List Bool → Table → Type 0
IsReadTable file values (Group groups) = AreTrueGroups file values (given_groups groups.places)
IsReadTable file values (Pairs pairs) = ⊥

-- The positions of the table are filled by what the moves and the file say of them.
abbrev pub IsFilledTable : DrawFile → List Move → Table → Type 0
IsFilledTable file ms (Group groups) = ArePlacesFilled file ms groups.places
IsFilledTable file ms (Pairs pairs) = ⊥
