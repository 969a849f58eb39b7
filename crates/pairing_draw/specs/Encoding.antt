-- A pairing as a count problem (this project's own numbering). Runners-up and winners are counted
-- from 0, each in the file order of their pot. With n winners, the atom of runner-up r and winner w
-- is r * n + w: it is true where the table gives that runner-up that winner.
use Rattle.std.specs.Prelude.{◌≡◌, ℕ, ◌+◌, ◌*◌, ◌<◌, ◌==◌, Bool, true, not, List, [], ◌∷◌, ◌++◌, length, map, filter, Option, Some, None, slice_get}
use Rattle.std.specs.List.{filter_map, flat_map, enumerate_from, range_with_len, position_or_len}
use Rattle.team_files.specs.declared.team_id.TeamId.{TeamId}
use Rattle.rule_sets.specs.Files.{DrawFile}
use Rattle.count_core.specs.declared.lit.Lit.{Lit}
use Rattle.count_core.specs.declared.count_rule.CountRule.{CountRule}
use Rattle.count_core.specs.Problems.{Problem}
use Rattle.count_core.specs.Assignments.{value_of}
use Rattle.draw_tables.specs.declared.moves.Move.{Move}
use Rattle.draw_tables.specs.declared.moves.Move.TheVariants.{Drawn, Placed, Positioned, Paired}
use Rattle.draw_tables.specs.declared.table.Table.{Table}
use Rattle.draw_tables.specs.declared.table.Table.TheVariants.{Group, Pairs}
use Rattle.draw_tables.specs.Pots.{winners, runners_up}
use Rattle.draw_tables.specs.Pairings.{may_meet}

-- ---- atoms and literals

abbrev pub atom_of : ℕ → ℕ → ℕ → ℕ
atom_of n r w = r * n + w

-- that runner-up r gets winner w
abbrev pub pair_lit : ℕ → ℕ → ℕ → Lit
pair_lit n r w = record { atom = record { 0 = atom_of n r w }; positive = true }

-- ---- rules, where there are m runners-up and n winners

abbrev pub exactly_one : List Lit → CountRule
exactly_one lits = record { lits = lits; lo = 1; hi = 1 }

abbrev pub never : Lit → CountRule
never l = record { lits = l ∷ []; lo = 0; hi = 0 }

-- 1. the runner-up gets one winner
abbrev pub row_rule : ℕ → ℕ → CountRule
row_rule n r = exactly_one (map (λ w. pair_lit n r w) (range_with_len 0 n))

-- 2. the winner is given to one runner-up
abbrev pub column_rule : ℕ → ℕ → ℕ → CountRule
column_rule m n w = exactly_one (map (λ r. pair_lit n r w) (range_with_len 0 m))

-- 3. the runner-up gets none of the winners that it may not meet: those of its first-round group,
-- those with a common tag and those with which it is a forbidden pair
abbrev pub bans_of : DrawFile → List TeamId → ℕ × TeamId → List CountRule
bans_of file ws r =
    map (λ w. never (pair_lit (length ws) r.0 w.0))
    (filter (λ w. not (may_meet file r.1 w.1)) (enumerate_from 0 ws))

-- the rules of each kind
abbrev pub row_rules : ℕ → ℕ → List CountRule
row_rules m n = map (row_rule n) (range_with_len 0 m)

abbrev pub column_rules : ℕ → ℕ → List CountRule
column_rules m n = map (column_rule m n) (range_with_len 0 n)

abbrev pub ban_rules : DrawFile → List TeamId → List TeamId → List CountRule
ban_rules file rs ws = flat_map (bans_of file ws) (enumerate_from 0 rs)

-- all rules, in the order of their kinds
abbrev pub rules_between : DrawFile → List TeamId → List TeamId → List CountRule
rules_between file rs ws =
    row_rules (length rs) (length ws)
    ++ (column_rules (length rs) (length ws)
    ++ ban_rules file rs ws)

-- the count problem of runners-up and winners
abbrev pub problem_between : DrawFile → List TeamId → List TeamId → Problem
problem_between file rs ws = record {
  atoms = length rs * length ws;
  rules = rules_between file rs ws;
}

-- The count problem of a pairing file.
abbrev pub rules_of : DrawFile → Problem
rules_of file = problem_between file (runners_up file) (winners file)

-- ---- assignments of tables

-- the values of the winners given, runner-up by runner-up
abbrev pub values_of_winners : DrawFile → List TeamId → List Bool
values_of_winners file given = flat_map (λ g. map (λ w. w.0 == g.0) (winners file)) given

-- The values of a table; one of another kind of draw has none.
abbrev pub values_of : DrawFile → Table → List Bool
values_of file (Group groups) = []
values_of file (Pairs pairs) = values_of_winners file pairs.winners

-- the atom of runner-up r and one of n winners is true
abbrev pub HasTrueAtom : List Bool → ℕ → ℕ → Type 0
HasTrueAtom values n r = (w : ℕ) × (w < n) × (value_of values (atom_of n r w) ≡ true)

-- the team is a winner, and the atom of runner-up r and this winner is true
abbrev pub IsTrueWinner : List Bool → List TeamId → ℕ → TeamId → Type 0
IsTrueWinner values ws r winner =
    (w : ℕ) × (slice_get ws w ≡ Some winner) × (value_of values (atom_of (length ws) r w) ≡ true)

-- Each of m runners-up is given a winner whose atom is true.
pub record IsRead (values : List Bool) (m : ℕ) (ws : List TeamId) (given : List TeamId) : Type 0 where
  pub size : length given ≡ m
  pub atoms : (r : ℕ) (winner : TeamId)
      → slice_get given r ≡ Some winner → IsTrueWinner values ws r winner

-- The table gives each runner-up of the file a winner whose atom is true.
abbrev pub IsReadTable : DrawFile → List Bool → Table → Type 0
IsReadTable file values (Group groups) = ⊥
IsReadTable file values (Pairs pairs) =
    IsRead values (length (runners_up file)) (winners file) pairs.winners

-- ---- literals of moves

-- the place of the team in the list, counted from 0
abbrev pub place_of : TeamId → List TeamId → ℕ
place_of t teams = position_or_len (λ x. x.0 == t.0) teams

-- a drawn ball says nothing of the table, and a pairing has no groups and no positions
abbrev pub lit_of_move : DrawFile → Move → Option Lit
lit_of_move file (Drawn t) = None
lit_of_move file (Placed t group) = None
lit_of_move file (Positioned t position) = None
lit_of_move file (Paired r w) =
    Some (pair_lit (length (winners file))
    (place_of r (runners_up file)) (place_of w (winners file)))

-- The literals of moves: one for each pair, in order.
abbrev pub lits_of_moves : DrawFile → List Move → List Lit
lits_of_moves file ms = filter_map (lit_of_move file) ms
