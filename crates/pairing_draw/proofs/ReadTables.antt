-- A table that is read off values that satisfy the rules is legal and extends the moves.
use Rattle.std.proofs.Common.{◌≡◌, ℕ, zero, suc, ◌+◌, ◌<◌, Bool, true, false, cond, not, List, [], ◌∷◌, ◌++◌, length, map, Some, slice_get, refl, sym, ap, ◌∙◌, arith, ◌⊎◌, inl, inr, length-append}
use Rattle.std.specs.List.{range_with_len, enumerate_from, flat_map, AllByRecursion as Each}
use Rattle.std.proofs.lemmas.Option.{slice_get_within}
use Rattle.team_files.specs.declared.kind.Kind.{Kind}
use Rattle.team_files.specs.declared.team_id.TeamId.{TeamId}
use Rattle.rule_sets.specs.Files.{DrawFile}
use Rattle.count_core.specs.declared.lit.Lit.{Lit}
use Rattle.count_core.specs.Assignments.{value_of, makes_true, SatisfiesRule, Satisfies, SatisfiesQuestion}
use Rattle.count_core.proofs.Lists.{count_cons, each_at}
use Rattle.draw_tables.specs.declared.moves.Move.{Move}
use Rattle.draw_tables.specs.declared.moves.Move.TheVariants.{Drawn, Placed, Positioned, Paired}
use Rattle.draw_tables.specs.Pots.{winners, runners_up, IsTeamOf, AreTeamsOf}
use Rattle.draw_tables.specs.Pairings.{may_meet, GivesOpponent, IsLegalPairing}
use Rattle.draw_tables.specs.States.{IsState}
use Rattle.draw_tables.specs.Offers.{Extends}
use Rattle.draw_tables.proofs.Lists.{same_item, item_at}
use Rattle.draw_tables.proofs.PairRules.{rules_kept}
use Rattle.pairing_draw.specs.Encoding.{IsRead, IsTrueWinner, HasTrueAtom, atom_of, pair_lit, never, exactly_one, row_rule, column_rule, bans_of, rules_of, place_of, lits_of_moves}
use Rattle.pairing_draw.specs.Correspondence.{ValuesComplete}
use Rattle.draw_tables.proofs.PotOrder.{pot_once, pot_team}
use Rattle.pairing_draw.proofs.AtomNumbers.{OneBelow, below_one, below_each}
use Rattle.pairing_draw.proofs.PlacedLists.{each_split, place_of_each, joined_each, place_found}
use Rattle.pairing_draw.proofs.StateMoves.{IsKnown, state_known}
use Rattle.pairing_draw.proofs.PairTables.{pair_table}

-- ---- what a satisfied rule says

satisfies_one : (values : List Bool) (lit : ℕ → Lit) (n : ℕ) → SatisfiesRule values (exactly_one (map lit (range_with_len 0 n))) → OneBelow (makes_true values) lit n
satisfies_one values lit n h = let low = h.0 in let high = h.1 in below_one (makes_true values) lit n (omega arith)

satisfies_never : (values : List Bool) (l : Lit) → SatisfiesRule values (never l) → makes_true values l ≡ true → ⊥
satisfies_never values l h e = let high = h.1 in let c = count_cons (makes_true values) l [] ∙ ap (λ b. cond b 1 0 + 0) e in absurd (omega arith)

module _ (file : DrawFile) (values : List Bool) (satisfied : Satisfies values (rules_of file)) where
  abbrev m : ℕ
  m = length (runners_up file)

  abbrev n : ℕ
  n = length (winners file)

  parts : Each (SatisfiesRule values) (map (row_rule n) (range_with_len 0 m)) × Each (SatisfiesRule values) (map (column_rule m n) (range_with_len 0 n) ++ flat_map (bans_of file (winners file)) (enumerate_from 0 (runners_up file)))
  parts = each_split (SatisfiesRule values) (map (row_rule n) (range_with_len 0 m)) (map (column_rule m n) (range_with_len 0 n) ++ flat_map (bans_of file (winners file)) (enumerate_from 0 (runners_up file))) satisfied

  others : Each (SatisfiesRule values) (map (column_rule m n) (range_with_len 0 n)) × Each (SatisfiesRule values) (flat_map (bans_of file (winners file)) (enumerate_from 0 (runners_up file)))
  others = each_split (SatisfiesRule values) (map (column_rule m n) (range_with_len 0 n)) (flat_map (bans_of file (winners file)) (enumerate_from 0 (runners_up file))) parts.1

  row : (r : ℕ) → r < m → OneBelow (makes_true values) (λ w. pair_lit n r w) n
  row r lt = satisfies_one values (λ w. pair_lit n r w) n (below_each (row_rule n) (SatisfiesRule values) m parts.0 r lt)

  column : (w : ℕ) → w < n → OneBelow (makes_true values) (λ r. pair_lit n r w) m
  column w lt = satisfies_one values (λ r. pair_lit n r w) m (below_each (column_rule m n) (SatisfiesRule values) n others.0 w lt)

  ban : (r w : ℕ) (runner winner : TeamId) → slice_get (runners_up file) r ≡ Some runner → slice_get (winners file) w ≡ Some winner → not (may_meet file runner winner) ≡ true → makes_true values (pair_lit n r w) ≡ true → ⊥
  ban r w runner winner e f bans t =
      satisfies_never values (pair_lit n r w)
      (place_of_each (SatisfiesRule values) (λ x. never (pair_lit n r x.0)) (λ x. not (may_meet file runner x.1)) 0 (winners file)
      (joined_each (SatisfiesRule values) (bans_of file (winners file)) 0 (runners_up file) others.1 r r runner (omega arith) e)
      w w winner (omega arith) f bans)
      t

  -- true atoms are of pairs that may meet
  may : (r w : ℕ) (runner winner : TeamId) → slice_get (runners_up file) r ≡ Some runner → slice_get (winners file) w ≡ Some winner → makes_true values (pair_lit n r w) ≡ true → may_meet file runner winner ≡ true
  may r w runner winner e f t = by_cases (may_meet file runner winner) (λ bans. ban r w runner winner e f bans t)
    where
      by_cases : (b : Bool) → (not b ≡ true → ⊥) → b ≡ true
      by_cases true h = refl
      by_cases false h = absurd (h refl)

  -- each runner-up has a true atom
  pub row_true : (r : ℕ) → r < m → HasTrueAtom values n r
  row_true r lt = let one = row r lt in (one.at, one.within, one.passes)

  module _ (table : List TeamId) (read : IsRead values m (winners file) table) where
    -- the winner of a true atom is the one that the table gives
    given_is : (r w : ℕ) (winner : TeamId) → r < m → slice_get (winners file) w ≡ Some winner → makes_true values (pair_lit n r w) ≡ true → slice_get table r ≡ Some winner
    given_is r w winner lt e t =
        let size = read.size in
        let given = item_at table r (omega arith) in
        let a = read.atoms r given.0 given.1 in
        let one = row r lt in
        let here : a.0 ≡ w = one.only a.0 (slice_get_within (winners file) a.0 given.0 a.1) a.2 ∙ sym (one.only w (slice_get_within (winners file) w winner e) t) in
        given.1 ∙ sym a.1 ∙ ap (slice_get (winners file)) here ∙ e

    meets : (runner winner : TeamId) → GivesOpponent file table runner winner → may_meet file runner winner ≡ true
    meets runner winner gives =
        let a = read.atoms gives.0 winner gives.2 in
        may gives.0 a.0 runner winner gives.1 a.1 a.2

    -- what is read is legal
    pub legal : IsLegalPairing file table
    legal = record {
      size = read.size;
      nobody_else = λ w among. let a = read.atoms among.0 w among.1 in (a.0, a.1);
      given = λ w among.
          let one = column among.0 (slice_get_within (winners file) among.0 w among.1) in
          (one.at, given_is one.at among.0 w one.within among.1 one.passes);
      once = λ i j w e f.
          let size = read.size in
          let in_i = slice_get_within table i w e in
          let in_j = slice_get_within table j w f in
          let a = read.atoms i w e in
          let b = read.atoms j w f in
          let same = pot_once 1 file b.0 a.0 w b.1 a.1 in
          let one = column a.0 (slice_get_within (winners file) a.0 w a.1) in
          one.only i (omega arith) a.2 ∙ sym (one.only j (omega arith) (ap (λ x. value_of values (atom_of n j x)) (sym same) ∙ b.2));
      letters = λ r w a b gives is_r is_w. (rules_kept file r w a b is_r is_w (meets r w gives)).0;
      tags = λ r w a b gives is_r is_w. (rules_kept file r w a b is_r is_w (meets r w gives)).1;
      forbidden = λ r w gives.
          let k = read.atoms gives.0 w gives.2 in
          let a = pot_team 2 file gives.0 r gives.1 in
          let b = pot_team 1 file k.0 w k.1 in
          (rules_kept file r w a.0 b.0 a.1 b.1 (meets r w gives)).2;
    }

    extended : (ms : List Move) → Each (IsKnown file) ms → SatisfiesQuestion values (lits_of_moves file ms) → Extends file (pair_table table) ms
    extended [] h g = tt
    extended (Drawn t ∷ ms) h g = (tt, extended ms h.1 g)
    extended (Placed t group ∷ ms) h g = absurd h.0
    extended (Positioned t position ∷ ms) h g = absurd h.0
    extended (Paired r w ∷ ms) h g =
        let is_r = place_found r (runners_up file) h.0.0.0 h.0.0.1 in
        let is_w = place_found w (winners file) h.0.1.0 h.0.1.1 in (
          (place_of r (runners_up file), is_r, given_is (place_of r (runners_up file)) (place_of w (winners file)) w (slice_get_within (runners_up file) (place_of r (runners_up file)) r is_r) is_w g.0),
          extended ms h.1 g.1,
        )

    -- and extends the moves
    pub extends : (ms : List Move) → file.kind ≡ Kind.Pairing → IsState file ms → SatisfiesQuestion values (lits_of_moves file ms) → Extends file (pair_table table) ms
    extends ms kind state g = extended ms (state_known file kind ms state) g

-- ---- there is a table that is read off

list_of : {A : Type 0} (P : ℕ → A → Type 0) (m : ℕ) → ((r : ℕ) → r < m → (x : A) × P r x) → (xs : List A) × (length xs ≡ m) × ((r : ℕ) (x : A) → slice_get xs r ≡ Some x → P r x)
list_of P zero h = ([], refl, λ r x e. cc)
list_of {A} P (suc m) h =
    let first = h 0 (omega arith) in
    let rest = list_of (λ r. P (suc r)) m (λ r lt. h (suc r) (omega arith)) in
    (first.0 ∷ rest.0, ap suc rest.1, at first.0 first.1 rest.0 rest.2)
  where
    at : (y : A) → P 0 y → (ys : List A) → ((r : ℕ) (x : A) → slice_get ys r ≡ Some x → P (suc r) x) → (r : ℕ) (x : A) → slice_get (y ∷ ys) r ≡ Some x → P r x
    at y here ys later zero x e = let s : y ≡ x = cc in rw (← s) here
    at y here ys later (suc r) x e = later r x e

-- where each runner-up has a true atom, some table is read
pub some_read : (values : List Bool) (m : ℕ) (ws : List TeamId) → ((r : ℕ) → r < m → HasTrueAtom values (length ws) r) → (table : List TeamId) × IsRead values m ws table
some_read values m ws h =
    let made = list_of (λ r given. IsTrueWinner values ws r given) m (λ r lt.
    let w = h r lt in
    let given = item_at ws w.0 w.1 in
    (given.0, (w.0, given.1, w.2)))
    in (made.0, record { size = made.1; atoms = made.2 })

-- values that meet the rules and a state's moves complete it
pub values_complete : ValuesComplete
values_complete file ms values kind state meets =
    let table = some_read values (length (runners_up file)) (winners file) (row_true file values meets.rules) in
    (pair_table table.0, (kind, legal file values meets.rules table.0 table.1), extends file values meets.rules table.0 table.1 ms kind state meets.moves)

-- teams that each are of the file
are_teams : (file : DrawFile) (xs : List TeamId) → ((r : ℕ) (x : TeamId) → slice_get xs r ≡ Some x → x.0 < length file.teams) → AreTeamsOf file xs
are_teams file [] h = tt
are_teams file (x ∷ xs) h = (h 0 x refl, are_teams file xs (λ r y e. h (suc r) y e))

-- a table that is read off gives teams of the file
pub read_teams : (file : DrawFile) (values : List Bool) (m : ℕ) (ws table : List TeamId) → AreTeamsOf file ws → IsRead values m ws table → AreTeamsOf file table
read_teams file values m ws table h read = are_teams file table (λ r x e. let a = read.atoms r x e in each_at (λ t. IsTeamOf file t) ws a.0 x h a.1)

-- ---- the reading, runner-up by runner-up

-- at first none is read
pub read_none : (values : List Bool) (ws : List TeamId) → IsRead values 0 ws []
read_none values ws = record { size = refl; atoms = λ r given e. cc }

-- and then one more
pub read_more : (values : List Bool) (m : ℕ) (ws table more : List TeamId) (given : TeamId) → IsRead values m ws table
    → IsTrueWinner values ws m given
    → more ≡ table ++ given ∷ [] → IsRead values (m + 1) ws more
read_more values m ws table more given read found push = rw push (record {
  size = (let s = read.size in let l = length-append table (given ∷ []) in omega arith);
  atoms = λ r x e. by_place r x e (at_push table given r x e);
})
  where
    at_push : (xs : List TeamId) (y : TeamId) (r : ℕ) (x : TeamId) → slice_get (xs ++ y ∷ []) r ≡ Some x → (slice_get xs r ≡ Some x) ⊎ ((r ≡ length xs) × (y ≡ x))
    at_push [] y zero x e = inr (refl, same_item y x e)
    at_push [] y (suc r) x e = cc
    at_push (z ∷ xs) y zero x e = inl e
    at_push (z ∷ xs) y (suc r) x e = up (at_push xs y r x e)
      where
        up : (slice_get xs r ≡ Some x) ⊎ ((r ≡ length xs) × (y ≡ x)) → (slice_get xs r ≡ Some x) ⊎ ((suc r ≡ suc (length xs)) × (y ≡ x))
        up (inl h) = inl h
        up (inr h) = inr (ap suc h.0, h.1)

    by_place : (r : ℕ) (x : TeamId) → slice_get (table ++ given ∷ []) r ≡ Some x → (slice_get table r ≡ Some x) ⊎ ((r ≡ length table) × (given ≡ x)) → IsTrueWinner values ws r x
    by_place r x e (inl h) = read.atoms r x h
    by_place r x e (inr h) =
        let s = read.size in
        let here : m ≡ r = omega (arith, h.0) in
        rw (← here, ← h.1) found
