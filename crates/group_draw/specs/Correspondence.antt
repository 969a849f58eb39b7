-- Legal tables of a group draw and assignments correspond.
use Rattle.std.specs.Prelude.{◌≡◌, ◌≢◌, ℕ, ◌<◌, ◌≤◌, ◌↔◌, List, Bool, true, false, length, Some}
use Rattle.team_files.specs.declared.kind.Kind.{Kind}
use Rattle.team_files.specs.declared.team_id.TeamId.{TeamId}
use Rattle.rule_sets.specs.declared.limit.Limit.{Limit}
use Rattle.rule_sets.specs.declared.pair.Pair.{Pair}
use Rattle.rule_sets.specs.declared.place.Place.{Place}
use Rattle.rule_sets.specs.Files.{DrawFile, IsWellFormed}
use Rattle.count_core.specs.Problems.{repeats, are_within, IsWellFormed as IsWellFormedProblem}
use Rattle.count_core.specs.Assignments.{makes_true, Satisfies, SatisfiesQuestion}
use Rattle.draw_tables.specs.declared.group_place.GroupPlace.{GroupPlace}
use Rattle.draw_tables.specs.declared.moves.Move.{Move}
use Rattle.draw_tables.specs.declared.table.Table.{Table}
use Rattle.draw_tables.specs.Lists.{IsAmong}
use Rattle.draw_tables.specs.Pots.{teams_of_pot, teams_with, IsPot, IsTeamOf}
use Rattle.draw_tables.specs.GroupTables.{group_of, number_in, stands_in}
use Rattle.draw_tables.specs.Positions.{HasCleanPositions}
use Rattle.draw_tables.specs.Tables.{IsLegal}
use Rattle.draw_tables.specs.States.{IsState}
use Rattle.draw_tables.specs.Offers.{Extends, IsCompletable}
use Rattle.group_draw.specs.Encoding.{group_lit, rules_of, values_of, values_of_places, lits_of_moves}
use Rattle.group_draw.specs.Decoding.{given_groups, AreTrueGroups}

-- ---- values and the groups of a table

-- The atom of each team and group is true exactly where the table has the team in the group.
abbrev pub Agrees : DrawFile → List Bool → List GroupPlace → Type 0
Agrees file values table = (t : TeamId) (group : ℕ)
    → IsTeamOf file t → group < file.groups
    → makes_true values (group_lit file group t) ≡ stands_in table group t

-- The table gives each team a group of the file.
pub record HasGroups (file : DrawFile) (table : List GroupPlace) : Type 0 where
  pub size : length table ≡ length file.teams
  pub groups : (place : GroupPlace) → IsAmong table place → place.group < file.groups

-- The groups of the table keep the rules of a legal table that do not speak of positions.
pub record KeepsGroupRules (file : DrawFile) (table : List GroupPlace) : Type 0 where
  pub fixed_group : (place : Place) → IsAmong file.places place
      → group_of table place.team ≡ Some place.group
  pub pots : (group pot : ℕ) → group < file.groups → IsPot file pot
      → number_in table group (teams_of_pot pot file) ≡ 1
  pub enough : (group : ℕ) (limit : Limit) → group < file.groups → IsAmong file.limits limit
      → limit.lo ≤ number_in table group (teams_with limit.tag file)
  pub not_too_many : (group : ℕ) (limit : Limit) → group < file.groups → IsAmong file.limits limit
      → number_in table group (teams_with limit.tag file) ≤ limit.hi
  pub forbidden : (pair : Pair) → IsAmong file.pairs pair
      → group_of table pair.first ≢ group_of table pair.second

-- Where values and a table agree, the values satisfy the rules exactly where the groups keep their
-- rules.
abbrev pub AgreeingSatisfy : Type 0
AgreeingSatisfy = (file : DrawFile) (values : List Bool) (table : List GroupPlace)
    → file.kind ≡ Kind.Group → IsWellFormed file → HasGroups file table → Agrees file values table
    → (Satisfies values (rules_of file) ↔ KeepsGroupRules file table)

-- A table and its values agree.
abbrev pub ValuesAgree : Type 0
ValuesAgree = (file : DrawFile) (table : List GroupPlace)
    → HasGroups file table → Agrees file (values_of_places file table) table

-- Values that satisfy the rules agree with a table whose groups are read off them.
abbrev pub ReadAgrees : Type 0
ReadAgrees = (file : DrawFile) (values : List Bool) (table : List GroupPlace)
    → Satisfies values (rules_of file) → AreTrueGroups file values (given_groups table)
    → Agrees file values table

-- ---- states

-- The assignment satisfies the rules of the file and makes the literals of the moves true.
pub record Meets (file : DrawFile) (ms : List Move) (values : List Bool) : Type 0 where
  pub rules : Satisfies values (rules_of file)
  pub moves : SatisfiesQuestion values (lits_of_moves file ms)

-- The values of a legal table that extends the moves meet the rules and the moves.
abbrev pub TablesSatisfy : Type 0
TablesSatisfy = (file : DrawFile) (ms : List Move) (table : Table)
    → file.kind ≡ Kind.Group → IsWellFormed file → IsLegal file table → Extends file table ms
    → Meets file ms (values_of file table)

-- Where some assignment meets the rules and the moves of a state with clean positions, some legal
-- table extends the moves.
abbrev pub ValuesComplete : Type 0
ValuesComplete = (file : DrawFile) (ms : List Move) (values : List Bool)
    → file.kind ≡ Kind.Group → IsWellFormed file → IsState file ms → HasCleanPositions file ms
    → Meets file ms values → IsCompletable file ms

-- A state with clean positions is completable exactly where some assignment meets the rules and its
-- moves.
abbrev pub CompletableWhereSatisfied : Type 0
CompletableWhereSatisfied = (file : DrawFile) (ms : List Move)
    → file.kind ≡ Kind.Group → IsWellFormed file → IsState file ms → HasCleanPositions file ms
    → (IsCompletable file ms ↔ ((values : List Bool) × Meets file ms values))

-- The rules of a file make a problem.
abbrev pub RulesAreFormed : Type 0
RulesAreFormed = (file : DrawFile)
    → file.kind ≡ Kind.Group → IsWellFormed file → IsWellFormedProblem (rules_of file)

-- The literals of a state's moves are over different atoms of the problem.
abbrev pub MovesAreQuestions : Type 0
MovesAreQuestions = (file : DrawFile) (ms : List Move) → file.kind ≡ Kind.Group → IsState file ms
    → (are_within (rules_of file).atoms (lits_of_moves file ms) ≡ true)
    × (repeats (lits_of_moves file ms) ≡ false)
