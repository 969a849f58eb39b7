-- Legal group tables (the draws of FIFA's World Cups of 2018 and 2022). A table gives each team of the file, in file order, a group, counted from 0, and a position in it, counted from 1.
use Rattle.std.specs.Prelude.{◌≡◌, ◌≢◌, ℕ, ◌<◌, ◌≤◌, ◌==◌, ◌&&◌, nat_eq, Bool, List, length, Option, Some, slice_get, count_by, option_map}
use Rattle.std.specs.Option.{option_eq}
use Rattle.team_files.specs.declared.team_id.TeamId.{TeamId}
use Rattle.rule_sets.specs.declared.limit.Limit.{Limit}
use Rattle.rule_sets.specs.declared.pair.Pair.{Pair}
use Rattle.rule_sets.specs.declared.place.Place.{Place}
use Rattle.rule_sets.specs.Files.{DrawFile}
use Rattle.draw_tables.specs.declared.group_place.GroupPlace.{GroupPlace}
use Rattle.draw_tables.specs.Lists.{IsAmong}
use Rattle.draw_tables.specs.Pots.{IsPot, IsPosition, teams_of_pot, teams_with}

-- ---- one team

-- the team's group
abbrev pub group_of : List GroupPlace → TeamId → Option ℕ
group_of table t = option_map (λ place. place.group) (slice_get table t.0)

-- the team's position in its group
abbrev pub position_of : List GroupPlace → TeamId → Option ℕ
position_of table t = option_map (λ place. place.position) (slice_get table t.0)

-- the team stands in the group
abbrev pub stands_in : List GroupPlace → ℕ → TeamId → Bool
stands_in table group t = option_eq nat_eq (group_of table t) (Some group)

-- ---- counts

-- how many of the teams stand in the group
abbrev pub number_in : List GroupPlace → ℕ → List TeamId → ℕ
number_in table group teams = count_by (stands_in table group) teams

-- the place is the position of the group
abbrev pub is_at : ℕ → ℕ → GroupPlace → Bool
is_at group position place = place.group == group && place.position == position

-- how many teams have the position of the group
abbrev pub number_at : List GroupPlace → ℕ → ℕ → ℕ
number_at table group position = count_by (is_at group position) table

-- ---- the rules

-- the place is one of the file: one of its groups, and one of the positions in it
abbrev pub IsFilePlace : DrawFile → GroupPlace → Type 0
IsFilePlace file place = (place.group < file.groups) × IsPosition file place.position

-- each place is one of the file
abbrev pub AreFilePlaces : DrawFile → List GroupPlace → Type 0
AreFilePlaces file table = (place : GroupPlace) → IsAmong table place → IsFilePlace file place

-- A group table is legal where five rules hold.
pub record IsLegalGroups (file : DrawFile) (table : List GroupPlace) : Type 0 where
  -- each team has a group of the file and a position in it
  pub size : length table ≡ length file.teams
  pub places : AreFilePlaces file table
  -- 1. each fixed place is kept, group and position
  pub fixed_group : (place : Place) → IsAmong file.places place
      → group_of table place.team ≡ Some place.group
  pub fixed_position : (place : Place) → IsAmong file.places place
      → position_of table place.team ≡ Some place.position
  -- 2. each group has exactly one team of each pot
  pub pots : (group pot : ℕ) → group < file.groups → IsPot file pot
      → number_in table group (teams_of_pot pot file) ≡ 1
  -- 3. in each group the number of teams that hold a limit's tag is from lo to hi
  pub enough : (group : ℕ) (limit : Limit) → group < file.groups → IsAmong file.limits limit
      → limit.lo ≤ number_in table group (teams_with limit.tag file)
  pub not_too_many : (group : ℕ) (limit : Limit) → group < file.groups → IsAmong file.limits limit
      → number_in table group (teams_with limit.tag file) ≤ limit.hi
  -- 4. no forbidden pair stands in one group
  pub forbidden : (pair : Pair) → IsAmong file.pairs pair
      → group_of table pair.first ≢ group_of table pair.second
  -- 5. in each group each position is taken by exactly one team, and position 1 by the team of pot 1
  pub positions : (group position : ℕ) → group < file.groups → IsPosition file position
      → number_at table group position ≡ 1
  pub heads : (t : TeamId) → IsAmong (teams_of_pot 1 file) t → position_of table t ≡ Some 1
