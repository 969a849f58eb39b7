-- What a pass over a group table tests, and what it finds first. These serve the proofs; the rules themselves stand in GroupTables and GroupVerdicts.
use Rattle.std.specs.Prelude.{◌≡◌, ℕ, ◌+◌, ◌<◌, ◌≤◌, ◌==◌, ◌&&◌, ◌||◌, not, nat_eq, nat_lt, Bool, true, false, List, length, Option, Some, None, slice_get}
use Rattle.std.specs.List.{list_any}
use Rattle.std.specs.Option.{option_eq}
use Rattle.team_files.specs.declared.team_id.TeamId.{TeamId}
use Rattle.rule_sets.specs.declared.limit.Limit.{Limit}
use Rattle.rule_sets.specs.declared.pair.Pair.{Pair}
use Rattle.rule_sets.specs.declared.place.Place.{Place}
use Rattle.rule_sets.specs.Files.{DrawFile}
use Rattle.draw_tables.specs.declared.group_place.GroupPlace.{GroupPlace}
use Rattle.draw_tables.specs.declared.group_rule.GroupRule.{GroupRule}
use Rattle.draw_tables.specs.declared.group_rule.GroupRule.TheVariants.{Pots, Limits, Positions}
use Rattle.draw_tables.specs.Pots.{teams_of_pot, teams_with}
use Rattle.draw_tables.specs.GroupTables.{group_of, position_of, stands_in, number_in, number_at}

-- ---- rule 1

-- the team has the position of the group
abbrev pub has_place : List GroupPlace → ℕ → ℕ → TeamId → Bool
has_place table group position t =
    stands_in table group t && option_eq nat_eq (position_of table t) (Some position)

-- the table keeps the fixed place
abbrev pub keeps_place : List GroupPlace → Place → Bool
keeps_place table place = has_place table place.group place.position place.team

-- the first fixed place that is not kept, by its number
pub record IsFirstNotKept (file : DrawFile) (table : List GroupPlace) (number : ℕ) : Type 0 where
  pub place : Place
  pub is_place : slice_get file.places number ≡ Some place
  pub not_kept : keeps_place table place ≡ false
  pub first : (k : ℕ) (other : Place)
      → k < number → slice_get file.places k ≡ Some other → keeps_place table other ≡ true

-- each fixed place is kept
abbrev pub KeepsPlaces : DrawFile → List GroupPlace → Type 0
KeepsPlaces file table = (k : ℕ) (place : Place)
    → slice_get file.places k ≡ Some place → keeps_place table place ≡ true

-- ---- rules 2, 3 and 5, which one group can break

-- the number is fewer than the limit's lo or more than its hi
abbrev pub is_outside : Limit → ℕ → Bool
is_outside limit number = nat_lt number limit.lo || nat_lt limit.hi number

-- the group does not keep the limit
abbrev pub breaks_limit : DrawFile → List GroupPlace → ℕ → Option Limit → Bool
breaks_limit file table group None = false
breaks_limit file table group (Some limit) =
    is_outside limit (number_in table group (teams_with limit.tag file))

-- a team of pot 1 has position 1 of the group
abbrev pub has_head : DrawFile → List GroupPlace → ℕ → Bool
has_head file table group = list_any (has_place table group 1) (teams_of_pot 1 file)

-- the group breaks the rule by the pot, the limit or the position with the number
abbrev pub breaks_in : DrawFile → List GroupPlace → GroupRule → ℕ → ℕ → Bool
breaks_in file table Pots group pot = not (number_in table group (teams_of_pot pot file) == 1)
breaks_in file table Limits group number =
    breaks_limit file table group (slice_get file.limits number)
breaks_in file table Positions group position =
    not (number_at table group position == 1) || (position == 1 && not (has_head file table group))

-- the numbers of pots and of positions count from 1, those of limits from 0
abbrev pub first_of : GroupRule → ℕ
first_of Pots = 1
first_of Limits = 0
first_of Positions = 1

-- how many pots, limits or positions there are
abbrev pub how_many : DrawFile → GroupRule → ℕ
how_many file Pots = file.pots
how_many file Limits = length file.limits
how_many file Positions = file.pots

-- the number is that of a pot, of a limit or of a position, as the rule has it
pub record IsNumberOf (file : DrawFile) (rule : GroupRule) (number : ℕ) : Type 0 where
  pub least : first_of rule ≤ number
  pub most : number < first_of rule + how_many file rule

-- the group keeps the rule
abbrev pub GroupKeeps : DrawFile → List GroupPlace → GroupRule → ℕ → Type 0
GroupKeeps file table rule group = (number : ℕ)
    → IsNumberOf file rule number → breaks_in file table rule group number ≡ false

-- the first number by which the group breaks the rule
pub record IsFirstNumber (file : DrawFile) (table : List GroupPlace) (rule : GroupRule) (group number : ℕ) : Type 0 where
  pub is_number : IsNumberOf file rule number
  pub breaks : breaks_in file table rule group number ≡ true
  pub first : (other : ℕ) → other < number → IsNumberOf file rule other
      → breaks_in file table rule group other ≡ false

-- each group keeps the rule
abbrev pub GroupsKeep : DrawFile → List GroupPlace → GroupRule → Type 0
GroupsKeep file table rule = (group : ℕ) → group < file.groups → GroupKeeps file table rule group

-- the first group that breaks the rule, and the first number by which it does
pub record IsFirstBreach (file : DrawFile) (table : List GroupPlace) (rule : GroupRule) (group number : ℕ) : Type 0 where
  pub is_group : group < file.groups
  pub here : IsFirstNumber file table rule group number
  pub first : (other : ℕ) → other < group → GroupKeeps file table rule other

-- ---- rule 4

-- two teams that have one group
abbrev pub have_one : Option ℕ → Option ℕ → Bool
have_one None b = false
have_one (Some g) b = option_eq nat_eq b (Some g)

-- the two teams of the pair stand in one group
abbrev pub are_together : List GroupPlace → Pair → Bool
are_together table pair = have_one (group_of table pair.first) (group_of table pair.second)

-- the first pair that stands in one group, by its number, and the group
pub record IsFirstTogether (file : DrawFile) (table : List GroupPlace) (number group : ℕ) : Type 0 where
  pub pair : Pair
  pub is_pair : slice_get file.pairs number ≡ Some pair
  pub one : group_of table pair.first ≡ Some group
  pub together : are_together table pair ≡ true
  pub first : (k : ℕ) (other : Pair)
      → k < number → slice_get file.pairs k ≡ Some other → are_together table other ≡ false

-- no pair stands in one group
abbrev pub KeepsApart : DrawFile → List GroupPlace → Type 0
KeepsApart file table = (k : ℕ) (pair : Pair)
    → slice_get file.pairs k ≡ Some pair → are_together table pair ≡ false
