-- The values of a table tell its pairs; those of a legal table satisfy the rules of the file and the literals of the moves.
use Rattle.std.proofs.Common.{◌≡◌, ℕ, ◌+◌, ◌<◌, Bool, true, false, cond, not, List, [], ◌∷◌, ◌++◌, length, map, Some, slice_get, refl, sym, ap, ◌∙◌, arith}
use Rattle.std.specs.Prelude.{◌==◌}
use Rattle.std.specs.List.{range_with_len, enumerate_from, flat_map}
use Rattle.std.proofs.lemmas.List.{length-map}
use Rattle.std.proofs.lemmas.Bool.{eqb-true, eq-eqb}
use Rattle.std.proofs.lemmas.Option.{get_or_from_slice_get, slice_get_within}
use Rattle.team_files.specs.declared.team_id.TeamId.{TeamId}
use Rattle.rule_sets.specs.Files.{DrawFile}
use Rattle.count_core.specs.declared.lit.Lit.{Lit}
use Rattle.count_core.specs.Assignments.{value_of, makes_true, SatisfiesRule, Satisfies, SatisfiesQuestion}
use Rattle.count_core.proofs.Lists.{count_cons}
use Rattle.draw_tables.specs.declared.moves.Move.{Move}
use Rattle.draw_tables.specs.declared.moves.Move.TheVariants.{Drawn, Placed, Positioned, Paired}
use Rattle.draw_tables.specs.declared.table.Table.TheVariants.{Group, Pairs}
use Rattle.draw_tables.specs.Pots.{winners, runners_up}
use Rattle.draw_tables.specs.Pairings.{may_meet, IsLegalPairing}
use Rattle.draw_tables.specs.Offers.{Extends}
use Rattle.draw_tables.proofs.Lists.{item_at, map_at}
use Rattle.draw_tables.proofs.Numbers.{same_id}
use Rattle.draw_tables.proofs.PairRules.{may_meet_by}
use Rattle.pairing_draw.specs.Encoding.{atom_of, pair_lit, never, exactly_one, row_rule, column_rule, bans_of, rules_of, values_of_winners, place_of, lits_of_moves}
use Rattle.pairing_draw.specs.Correspondence.{TablesSatisfy, ValuesTellPairs}
use Rattle.draw_tables.proofs.PotOrder.{pot_once, pot_team}
use Rattle.pairing_draw.proofs.AtomNumbers.{OneBelow, one_below, each_below}
use Rattle.pairing_draw.proofs.PlacedLists.{each_append, each_of_places, each_joined, get_joined, place_found}
use Rattle.pairing_draw.proofs.PairTables.{pair_table}

-- a rule that one of the literals is true
pub one_satisfies : (values : List Bool) (lit : ℕ → Lit) (n : ℕ) → OneBelow (makes_true values) lit n → SatisfiesRule values (exactly_one (map lit (range_with_len 0 n)))
one_satisfies values lit n one = let h = one_below (makes_true values) lit n one in (omega arith, omega arith)

never_satisfies : (values : List Bool) (l : Lit) → makes_true values l ≡ false → SatisfiesRule values (never l)
never_satisfies values l e = let h = count_cons (makes_true values) l [] ∙ ap (λ b. cond b 1 0 + 0) e in (omega arith, omega arith)

-- the value of an atom says whether the table gives the runner-up that winner
values_at : (file : DrawFile) (table : List TeamId) (r w : ℕ) (given winner : TeamId) → slice_get table r ≡ Some given → slice_get (winners file) w ≡ Some winner
    → value_of (values_of_winners file table) (atom_of (length (winners file)) r w) ≡ (winner.0 == given.0)
values_at file table r w given winner e f =
    get_or_from_slice_get (values_of_winners file table) (atom_of (length (winners file)) r w) (winner.0 == given.0) false
    (get_joined (λ g. map (λ x. x.0 == g.0) (winners file)) (length (winners file)) (λ g. length-map (winners file) (λ x. x.0 == g.0)) table r w given (winner.0 == given.0) e
    (map_at (λ x. x.0 == given.0) (winners file) w winner f))

module _ (file : DrawFile) (table : List TeamId) where
  abbrev values : List Bool
  values = values_of_winners file table

  abbrev m : ℕ
  m = length (runners_up file)

  abbrev n : ℕ
  n = length (winners file)

  value_is : (r w : ℕ) (given winner : TeamId) → slice_get table r ≡ Some given → slice_get (winners file) w ≡ Some winner → makes_true values (pair_lit n r w) ≡ true → winner ≡ given
  value_is r w given winner e f t = same_id winner given (eqb-true winner.0 given.0 (sym (values_at file table r w given winner e f) ∙ t))

  is_value : (r w : ℕ) (winner : TeamId) → slice_get table r ≡ Some winner → slice_get (winners file) w ≡ Some winner → makes_true values (pair_lit n r w) ≡ true
  is_value r w winner e f = values_at file table r w winner winner e f ∙ eq-eqb winner.0 winner.0 refl

  module _ (legal : IsLegalPairing file table) where
    row : (r : ℕ) → r < m → OneBelow (makes_true values) (λ w. pair_lit n r w) n
    row r lt =
        let size = legal.size in
        let given = item_at table r (omega arith) in
        let k = legal.nobody_else given.0 (r, given.1) in
        record {
          at = k.0;
          within = slice_get_within (winners file) k.0 given.0 k.1;
          passes = is_value r k.0 given.0 given.1 k.1;
          only = λ j below t.
              let v = item_at (winners file) j below in
              let same = value_is r j given.0 v.0 given.1 v.1 t in
              pot_once 1 file j k.0 given.0 (v.1 ∙ ap Some same) k.1;
        }

    column : (w : ℕ) → w < n → OneBelow (makes_true values) (λ r. pair_lit n r w) m
    column w lt =
        let size = legal.size in
        let v = item_at (winners file) w lt in
        let i = legal.given v.0 (w, v.1) in
        let below = slice_get_within table i.0 v.0 i.1 in
        record {
          at = i.0;
          within = omega arith;
          passes = is_value i.0 w v.0 i.1 v.1;
          only = λ j in_m t.
              let g = item_at table j (omega arith) in
              let same = value_is j w g.0 v.0 g.1 v.1 t in
              legal.once j i.0 v.0 (g.1 ∙ ap Some (sym same)) i.1;
        }

    may : (r w : ℕ) (runner winner : TeamId) → slice_get (runners_up file) r ≡ Some runner → slice_get (winners file) w ≡ Some winner → makes_true values (pair_lit n r w) ≡ true → may_meet file runner winner ≡ true
    may r w runner winner e f t =
        let size = legal.size in
        let lt = slice_get_within (runners_up file) r runner e in
        let given = item_at table r (omega arith) in
        let same = value_is r w given.0 winner given.1 f t in
        let gives : slice_get table r ≡ Some winner = given.1 ∙ ap Some (sym same) in
        let a = pot_team 2 file r runner e in
        let b = pot_team 1 file w winner f in
        may_meet_by file runner winner a.0 b.0 a.1 b.1 (legal.letters runner winner a.0 b.0 (r, e, gives) a.1 b.1) (legal.tags runner winner a.0 b.0 (r, e, gives) a.1 b.1) (legal.forbidden runner winner (r, e, gives))

    banned : (r w : ℕ) (runner winner : TeamId) → slice_get (runners_up file) r ≡ Some runner → slice_get (winners file) w ≡ Some winner → not (may_meet file runner winner) ≡ true → makes_true values (pair_lit n r w) ≡ false
    banned r w runner winner e f bans = by_cases (makes_true values (pair_lit n r w)) (may r w runner winner e f)
      where
        by_cases : (b : Bool) → (b ≡ true → may_meet file runner winner ≡ true) → b ≡ false
        by_cases true h = let t = h refl in cc
        by_cases false h = refl

    rules : Satisfies values (rules_of file)
    rules =
        each_append (SatisfiesRule values) (map (row_rule n) (range_with_len 0 m)) (map (column_rule m n) (range_with_len 0 n) ++ flat_map (bans_of file (winners file)) (enumerate_from 0 (runners_up file)))
        (each_below (row_rule n) (SatisfiesRule values) m (λ r lt. one_satisfies values (λ w. pair_lit n r w) n (row r lt)))
        (each_append (SatisfiesRule values) (map (column_rule m n) (range_with_len 0 n)) (flat_map (bans_of file (winners file)) (enumerate_from 0 (runners_up file)))
        (each_below (column_rule m n) (SatisfiesRule values) n (λ w lt. one_satisfies values (λ r. pair_lit n r w) m (column w lt)))
        (each_joined (SatisfiesRule values) (bans_of file (winners file)) 0 (runners_up file) (λ r i runner is at.
        each_of_places (SatisfiesRule values) (λ w. never (pair_lit n r w.0)) (λ w. not (may_meet file runner w.1)) 0 (winners file) (λ w j winner s f t.
        let p : i ≡ r = omega arith in
        let q : j ≡ w = omega arith in
        never_satisfies values (pair_lit n r w) (banned r w runner winner (rw (← p) at) (rw (← q) f) t)))))

    moves : (ms : List Move) → Extends file (pair_table table) ms → SatisfiesQuestion values (lits_of_moves file ms)
    moves [] h = tt
    moves (Drawn t ∷ ms) h = moves ms h.1
    moves (Placed t group ∷ ms) h = absurd h.0
    moves (Positioned t position ∷ ms) h = absurd h.0
    moves (Paired s v ∷ ms) h =
        let i = h.0 in
        let here = place_found s (runners_up file) i.0 i.1 in
        let same = pot_once 2 file i.0 (place_of s (runners_up file)) s i.1 here in
        let k = legal.nobody_else v (i.0, i.2) in (
          is_value (place_of s (runners_up file)) (place_of v (winners file)) v (ap (slice_get table) (sym same) ∙ i.2) (place_found v (winners file) k.0 k.1),
          moves ms h.1,
        )

-- the values of a legal table that extends the moves meet the rules and the moves
pub tables_satisfy : TablesSatisfy
tables_satisfy file ms (Group groups) kind legal extends = let clash = sym kind ∙ legal.0 in cc
tables_satisfy file ms (Pairs pairs) kind legal extends = record {
  rules = rules file pairs.winners legal.1;
  moves = moves file pairs.winners legal.1 ms extends;
}

-- the atom of a pair is true exactly where the table gives it
pub values_tell : ValuesTellPairs
values_tell file pairs r w runner_up winner of_file is_r is_w = (
  λ t.
      let size = of_file.size in
      let lt = slice_get_within (runners_up file) r runner_up is_r in
      let given = item_at pairs.winners r (omega arith) in
      let same = value_is file pairs.winners r w given.0 winner given.1 is_w t in
      (r, is_r, given.1 ∙ ap Some (sym same)),
  λ gives.
      let same = pot_once 2 file gives.0 r runner_up gives.1 is_r in
      is_value file pairs.winners r w winner (ap (slice_get pairs.winners) (sym same) ∙ gives.2) is_w,
)
