-- A group draw as a count problem (this project's own numbering). With g groups, the atom of team i
-- and group k, both counted from 0, is i * g + k: it is true where the table has that team in that
-- group. Positions have no atoms: whatever the groups, positions can be filled in.
use Rattle.std.specs.Prelude.{ℕ, ◌+◌, ◌*◌, ◌<◌, ◌≤◌, ◌==◌, Bool, true, List, [], ◌∷◌, ◌++◌, length, map, Option, Some, None}
use Rattle.std.specs.List.{AllByRecursion as Each, filter_map, flat_map, range_with_len}
use Rattle.team_files.specs.declared.team_id.TeamId.{TeamId}
use Rattle.team_files.specs.Heads.{most_groups, most_teams}
use Rattle.rule_sets.specs.declared.limit.Limit.{Limit}
use Rattle.rule_sets.specs.declared.pair.Pair.{Pair}
use Rattle.rule_sets.specs.declared.place.Place.{Place}
use Rattle.rule_sets.specs.Files.{DrawFile}
use Rattle.count_core.specs.declared.lit.Lit.{Lit}
use Rattle.count_core.specs.declared.count_rule.CountRule.{CountRule}
use Rattle.count_core.specs.Problems.{Problem}
use Rattle.draw_tables.specs.declared.group_place.GroupPlace.{GroupPlace}
use Rattle.draw_tables.specs.declared.moves.Move.{Move}
use Rattle.draw_tables.specs.declared.moves.Move.TheVariants.{Drawn, Placed, Positioned, Paired}
use Rattle.draw_tables.specs.declared.table.Table.{Table}
use Rattle.draw_tables.specs.declared.table.Table.TheVariants.{Group, Pairs}
use Rattle.draw_tables.specs.Pots.{groups_of, pots_of, teams_of_pot, teams_with, IsTeamOf}

-- ---- atoms and literals

abbrev pub atom_of : DrawFile → ℕ → TeamId → ℕ
atom_of file group t = t.0 * file.groups + group

-- that the team stands in the group
abbrev pub group_lit : DrawFile → ℕ → TeamId → Lit
group_lit file group t = record { atom = record { 0 = atom_of file group t }; positive = true }

-- ---- rules

-- from lo to hi of the teams stand in the group
abbrev pub between : ℕ → ℕ → DrawFile → ℕ → List TeamId → CountRule
between lo hi file group teams = record {
  lits = map (group_lit file group) teams;
  lo = lo;
  hi = hi;
}

-- that the team with this number stands in the group
abbrev pub number_lit : DrawFile → ℕ → ℕ → Lit
number_lit file i group = group_lit file group (record { 0 = i })

-- 1. the team stands in exactly one group
abbrev pub team_rule : DrawFile → ℕ → CountRule
team_rule file i = record { lits = map (number_lit file i) (groups_of file); lo = 1; hi = 1 }

-- 2. the group has exactly one team of the pot
abbrev pub pot_rule : DrawFile → ℕ → ℕ → CountRule
pot_rule file group pot = between 1 1 file group (teams_of_pot pot file)

-- 3. from lo to hi teams of the group hold the limit's tag
abbrev pub limit_rule : DrawFile → ℕ → Limit → CountRule
limit_rule file group limit = between limit.lo limit.hi file group (teams_with limit.tag file)

-- 4. the group does not have both teams of the forbidden pair
abbrev pub pair_rule : DrawFile → Pair → ℕ → CountRule
pair_rule file pair group = between 0 1 file group (pair.first ∷ pair.second ∷ [])

-- 5. the group of the fixed place has its team
abbrev pub place_rule : DrawFile → Place → CountRule
place_rule file place = between 1 1 file place.group (place.team ∷ [])

-- the rules of each kind
abbrev pub team_rules : DrawFile → List CountRule
team_rules file = map (team_rule file) (range_with_len 0 (length file.teams))

abbrev pub pot_rules : DrawFile → List CountRule
pot_rules file = flat_map (λ group. map (pot_rule file group) (pots_of file)) (groups_of file)

abbrev pub limit_rules : DrawFile → List CountRule
limit_rules file = flat_map (λ group. map (limit_rule file group) file.limits) (groups_of file)

abbrev pub pair_rules : DrawFile → List CountRule
pair_rules file = flat_map (λ pair. map (pair_rule file pair) (groups_of file)) file.pairs

abbrev pub place_rules : DrawFile → List CountRule
place_rules file = map (place_rule file) file.places

-- all rules, in the order of their kinds
abbrev pub all_rules : DrawFile → List CountRule
all_rules file =
    team_rules file
    ++ (pot_rules file
    ++ (limit_rules file
    ++ (pair_rules file
    ++ place_rules file)))

-- The count problem of a group draw's file.
abbrev pub rules_of : DrawFile → Problem
rules_of file = record { atoms = length file.teams * file.groups; rules = all_rules file }

-- ---- what the atoms need of a file

-- both teams of the pair are of the file
abbrev pub IsPairOf : DrawFile → Pair → Type 0
IsPairOf file pair = IsTeamOf file pair.first × IsTeamOf file pair.second

-- the team and the group of the place are of the file
abbrev pub IsPlaceOf : DrawFile → Place → Type 0
IsPlaceOf file place = IsTeamOf file place.team × (place.group < file.groups)

-- The file has few teams and groups, and its pairs and places name those that it has.
pub record HasAtoms (file : DrawFile) : Type 0 where
  pub few_teams : length file.teams ≤ most_teams
  pub few_groups : file.groups ≤ most_groups
  pub pairs : Each (IsPairOf file) file.pairs
  pub places : Each (IsPlaceOf file) file.places

-- where the move gives a team its group, both are of the file
abbrev pub NamesAtom : DrawFile → Move → Type 0
NamesAtom file (Drawn t) = Unit {0}
NamesAtom file (Placed t group) = IsTeamOf file t × (group < file.groups)
NamesAtom file (Positioned t position) = Unit {0}
NamesAtom file (Paired r w) = Unit {0}

-- ---- assignments of tables

-- the values of the groups given, team by team
abbrev pub values_of_places : DrawFile → List GroupPlace → List Bool
values_of_places file table =
    flat_map (λ place. map (λ group. group == place.group) (groups_of file)) table

-- The values of a table: for each team, whether each group is its own.
abbrev pub values_of : DrawFile → Table → List Bool
values_of file (Group groups) = values_of_places file groups.places
values_of file (Pairs pairs) = []

-- ---- literals of moves

-- only a team's group has an atom
abbrev pub lit_of_move : DrawFile → Move → Option Lit
lit_of_move file (Drawn t) = None
lit_of_move file (Placed t group) = Some (group_lit file group t)
lit_of_move file (Positioned t position) = None
lit_of_move file (Paired r w) = None

-- The literals of moves: one for each team that took a group, in order.
abbrev pub lits_of_moves : DrawFile → List Move → List Lit
lits_of_moves file ms = filter_map (lit_of_move file) ms
