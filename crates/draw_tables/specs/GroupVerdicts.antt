-- The cases that break a rule of group tables, and the numbers that tell them (this project's own). Groups, fixed places, limits and pairs count from 0, pots and positions from 1.
use Rattle.std.specs.Prelude.{◌≡◌, ◌≢◌, ℕ, ◌<◌, ◌⊎◌, List, Some, slice_get}
use Rattle.team_files.specs.declared.team_id.TeamId.{TeamId}
use Rattle.rule_sets.specs.declared.limit.Limit.{Limit}
use Rattle.rule_sets.specs.declared.pair.Pair.{Pair}
use Rattle.rule_sets.specs.declared.place.Place.{Place}
use Rattle.rule_sets.specs.Files.{DrawFile}
use Rattle.draw_tables.specs.declared.group_place.GroupPlace.{GroupPlace}
use Rattle.draw_tables.specs.Lists.{IsAmong}
use Rattle.draw_tables.specs.Pots.{IsPot, IsPosition, teams_of_pot, teams_with}
use Rattle.draw_tables.specs.GroupTables.{group_of, position_of, number_in, number_at}

-- the table keeps the fixed place, group and position
abbrev pub IsKept : List GroupPlace → Place → Type 0
IsKept table place =
    (group_of table place.team ≡ Some place.group)
    × (position_of table place.team ≡ Some place.position)

-- 1. The first number is that of a fixed place that is not kept, the second is 0.
pub record IsNotKept (file : DrawFile) (table : List GroupPlace) (first second : ℕ) : Type 0 where
  pub place : Place
  pub is_place : slice_get file.places first ≡ Some place
  pub not_kept : ¬ IsKept table place
  pub zero : second ≡ 0

-- 2. The numbers are a group and a pot of which the group does not have exactly one team.
pub record HasNotOneOfPot (file : DrawFile) (table : List GroupPlace) (first second : ℕ) : Type 0 where
  pub group : first < file.groups
  pub pot : IsPot file second
  pub not_one : number_in table first (teams_of_pot second file) ≢ 1

-- so many teams are fewer than the limit's lo or more than its hi
abbrev pub IsOutside : Limit → ℕ → Type 0
IsOutside limit number = (number < limit.lo) ⊎ (limit.hi < number)

-- 3. The numbers are a group and the number of a limit that it does not keep.
pub record BreaksLimit (file : DrawFile) (table : List GroupPlace) (first second : ℕ) : Type 0 where
  pub group : first < file.groups
  pub limit : Limit
  pub is_limit : slice_get file.limits second ≡ Some limit
  pub outside : IsOutside limit (number_in table first (teams_with limit.tag file))

-- 4. The numbers are that of a forbidden pair and the group in which both its teams stand.
pub record StandTogether (file : DrawFile) (table : List GroupPlace) (first second : ℕ) : Type 0 where
  pub pair : Pair
  pub is_pair : slice_get file.pairs first ≡ Some pair
  pub one : group_of table pair.first ≡ Some second
  pub other : group_of table pair.second ≡ Some second

-- no team of pot 1 has position 1 of the group
abbrev pub HasNoHead : DrawFile → List GroupPlace → ℕ → Type 0
HasNoHead file table group = (t : TeamId) → IsAmong (teams_of_pot 1 file) t
    → group_of table t ≡ Some group → position_of table t ≢ Some 1

-- 5. The numbers are a group and a position of it that is not taken by exactly one team, or position 1 that the team of pot 1 does not have.
pub record IsWronglyTaken (file : DrawFile) (table : List GroupPlace) (first second : ℕ) : Type 0 where
  pub group : first < file.groups
  pub position : IsPosition file second
  pub wrong : (number_at table first second ≢ 1) ⊎ ((second ≡ 1) × HasNoHead file table first)

-- a case of a broken rule of group tables
abbrev pub IsBrokenGroups : DrawFile → List GroupPlace → ℕ → ℕ → ℕ → Type 0
IsBrokenGroups file table rule first second =
    ((rule ≡ 1) × IsNotKept file table first second) ⊎ (
    ((rule ≡ 2) × HasNotOneOfPot file table first second) ⊎ (
    ((rule ≡ 3) × BreaksLimit file table first second) ⊎ (
    ((rule ≡ 4) × StandTogether file table first second) ⊎
    ((rule ≡ 5) × IsWronglyTaken file table first second))))
