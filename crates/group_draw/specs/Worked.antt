-- The count problems of two small files, by hand.
use Rattle.std.specs.Prelude.{◌≡◌, ℕ, List, [], ◌∷◌, Some, None, codes}
use Rattle.team_files.specs.declared.kind.Kind.{Kind}
use Rattle.team_files.specs.declared.team.Team.{Team}
use Rattle.team_files.specs.declared.team_id.TeamId.{TeamId}
use Rattle.rule_sets.specs.Files.{DrawFile}
use Rattle.count_core.specs.declared.lit.Lit.{Lit}
use Rattle.count_core.specs.declared.count_rule.CountRule.{CountRule}
use Rattle.count_core.specs.Clash.{clash, one_of, yes_of}
use Rattle.draw_tables.specs.declared.moves.Move.{Move}
use Rattle.draw_tables.specs.declared.moves.Move.TheVariants.{Drawn, Placed, Positioned}
use Rattle.group_draw.specs.Encoding.{rules_of, lits_of_moves}
use Rattle.group_draw.specs.Decoding.{wishes_in}

-- a team by its code, its pot and its tag
abbrev team_of : List ℕ → ℕ → List ℕ → Team
team_of code pot tag = record {
  code = code;
  name = code;
  pot = pot;
  tags = tag ∷ [];
  group_letter = None;
}

-- two groups of two pots of two teams, all with one tag, of which a group may have one
abbrev pub clash_file : DrawFile
clash_file = record {
  kind = Kind.Group;
  groups = 2;
  pots = 2;
  teams =
      team_of (codes "AAA") 1 (codes "X") ∷ team_of (codes "BBB") 1 (codes "X") ∷
      team_of (codes "CCC") 2 (codes "X") ∷ team_of (codes "DDD") 2 (codes "X") ∷ [];
  limits = record { tag = codes "X"; lo = 0; hi = 1 } ∷ [];
  pairs = [];
  places = [];
}

abbrev team : ℕ → TeamId
team i = record { 0 = i }

-- two groups from the first two pots of the draw of 2018, with the host in group A, and one pair
abbrev pub part_of_2018 : DrawFile
part_of_2018 = record {
  kind = Kind.Group;
  groups = 2;
  pots = 2;
  teams =
      team_of (codes "RUS") 1 (codes "UEFA") ∷ team_of (codes "GER") 1 (codes "UEFA") ∷
      team_of (codes "ESP") 2 (codes "UEFA") ∷ team_of (codes "PER") 2 (codes "CONMEBOL") ∷ [];
  limits =
      record { tag = codes "UEFA"; lo = 0; hi = 2 } ∷
      record { tag = codes "CONMEBOL"; lo = 0; hi = 1 } ∷ [];
  pairs = record { first = team 1; second = team 2 } ∷ [];
  places = record { team = team 0; group = 0; position = 1 } ∷ [];
}

-- from lo to hi of the atoms
abbrev rule_of : ℕ → ℕ → List Lit → CountRule
rule_of lo hi lits = record { lits = lits; lo = lo; hi = hi }

abbrev pub rules_of_part : List CountRule
rules_of_part =
    one_of 0 1 ∷ one_of 2 3 ∷ one_of 4 5 ∷ one_of 6 7 ∷
    one_of 0 2 ∷ one_of 4 6 ∷ one_of 1 3 ∷ one_of 5 7 ∷
    rule_of 0 2 (yes_of 0 ∷ yes_of 2 ∷ yes_of 4 ∷ []) ∷ rule_of 0 1 (yes_of 6 ∷ []) ∷
    rule_of 0 2 (yes_of 1 ∷ yes_of 3 ∷ yes_of 5 ∷ []) ∷ rule_of 0 1 (yes_of 7 ∷ []) ∷
    rule_of 0 1 (yes_of 2 ∷ yes_of 4 ∷ []) ∷ rule_of 0 1 (yes_of 3 ∷ yes_of 5 ∷ []) ∷
    rule_of 1 1 (yes_of 0 ∷ []) ∷ []

-- the balls RUS, GER and PER, the last with its position
abbrev pub three_balls : List Move
three_balls =
    Drawn (team 0) ∷ Placed (team 0) 0 ∷ Drawn (team 1) ∷ Placed (team 1) 1 ∷
    Drawn (team 3) ∷ Placed (team 3) 0 ∷ Positioned (team 3) 2 ∷ []

-- What the definitions say of these files.
pub record WorkedFiles : Type 0 where
  -- the rules of the first are the ten that no assignment satisfies
  pub clash_rules : rules_of clash_file ≡ clash
  pub part_rules : rules_of part_of_2018 ≡ record { atoms = 8; rules = rules_of_part }
  -- the literals of the three balls
  pub lits : lits_of_moves part_of_2018 three_balls ≡ yes_of 0 ∷ yes_of 3 ∷ yes_of 6 ∷ []
  -- with GER and ESP in group B, what is known of positions there is that of GER
  pub wishes : wishes_in part_of_2018 three_balls (0 ∷ 1 ∷ 1 ∷ 0 ∷ []) 1 ≡ Some 1 ∷ None ∷ []
