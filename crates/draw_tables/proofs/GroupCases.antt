-- The cases of broken rules of a group table, and the tests that the code makes.
use Rattle.std.proofs.Common.{◌≡◌, ◌≢◌, ℕ, ◌<◌, ◌⊎◌, inl, inr, true, false, not, List, Option, Some, None, slice_get, arith, refl, sym, ap, ◌∙◌}
use Rattle.std.specs.Prelude.{◌==◌, ◌&&◌, nat_eq, nat_lt}
use Rattle.std.specs.Option.{option_eq}
use Rattle.std.proofs.lemmas.Bool.{eq-eqb, ne_eqb, eqb-true, eqb-false, false≢true, false_from_ne_true, and_parts, and_from, or_cases, or_left, or_right, not-true, not_from_false, ltb-true, lt-ltb}
use Rattle.std.proofs.lemmas.Option.{slice_get_within}
use Rattle.team_files.specs.declared.team_id.TeamId.{TeamId}
use Rattle.rule_sets.specs.declared.limit.Limit.{Limit}
use Rattle.rule_sets.specs.declared.pair.Pair.{Pair}
use Rattle.rule_sets.specs.declared.place.Place.{Place}
use Rattle.rule_sets.specs.Files.{DrawFile}
use Rattle.draw_tables.specs.declared.group_place.GroupPlace.{GroupPlace}
use Rattle.draw_tables.specs.declared.group_rule.GroupRule.{GroupRule}
use Rattle.draw_tables.specs.declared.group_rule.GroupRule.TheVariants.{Pots, Limits, Positions}
use Rattle.draw_tables.specs.Pots.{teams_of_pot, teams_with}
use Rattle.draw_tables.specs.GroupTables.{group_of, position_of, stands_in, number_in, number_at}
use Rattle.draw_tables.specs.GroupVerdicts.{IsKept, HasNotOneOfPot, IsOutside, BreaksLimit, StandTogether, HasNoHead, IsWronglyTaken}
use Rattle.draw_tables.specs.GroupPasses.{has_place, keeps_place, is_outside, breaks_limit, has_head, breaks_in, IsNumberOf, have_one, are_together}
use Rattle.draw_tables.proofs.Lists.{same_item, one_passes, fails_there}

-- ---- numbers that are there

-- the test of a number says that it is there
pub is_some : (o : Option ℕ) (n : ℕ) → option_eq nat_eq o (Some n) ≡ true → o ≡ Some n
is_some None n e = cc
is_some (Some m) n e = ap Some (eqb-true m n e)

pub some_is : (o : Option ℕ) (n : ℕ) → o ≡ Some n → option_eq nat_eq o (Some n) ≡ true
some_is None n e = cc
some_is (Some m) n e = eq-eqb m n (same_item m n e)

-- ---- rule 1

module _ (table : List GroupPlace) where
  -- a team that has the position of the group by the test has both
  pub place_had : (g p : ℕ) (t : TeamId) → has_place table g p t ≡ true → (group_of table t ≡ Some g) × (position_of table t ≡ Some p)
  place_had g p t e =
      let both = and_parts (stands_in table g t) (option_eq nat_eq (position_of table t) (Some p)) e in
      (is_some (group_of table t) g both.0, is_some (position_of table t) p both.1)

  pub has_place_by : (g p : ℕ) (t : TeamId) → group_of table t ≡ Some g → position_of table t ≡ Some p → has_place table g p t ≡ true
  has_place_by g p t e f = and_from (stands_in table g t) (option_eq nat_eq (position_of table t) (Some p)) (some_is (group_of table t) g e) (some_is (position_of table t) p f)

  -- a fixed place is kept where the test says so
  pub kept_by : (place : Place) → keeps_place table place ≡ true → IsKept table place
  kept_by place e = place_had place.group place.position place.team e

  pub is_kept : (place : Place) → IsKept table place → keeps_place table place ≡ true
  is_kept place h = has_place_by place.group place.position place.team h.0 h.1

  pub not_kept_by : (place : Place) → keeps_place table place ≡ false → ¬ IsKept table place
  not_kept_by place e h = false≢true (sym e ∙ is_kept place h)

  pub is_not_kept : (place : Place) → ¬ IsKept table place → keeps_place table place ≡ false
  is_not_kept place n = false_from_ne_true (keeps_place table place) (λ e. n (kept_by place e))

-- ---- rules 2, 3 and 5

-- A case of one of these rules, by the test.
pub record IsCase (file : DrawFile) (table : List GroupPlace) (rule : GroupRule) (group number : ℕ) : Type 0 where
  pub is_group : group < file.groups
  pub is_number : IsNumberOf file rule number
  pub breaks : breaks_in file table rule group number ≡ true

-- two numbers are not equal where the test says so
differ_by : (a b : ℕ) → not (a == b) ≡ true → a ≢ b
differ_by a b e = eqb-false a b (not-true (a == b) e)

differ : (a b : ℕ) → a ≢ b → not (a == b) ≡ true
differ a b n = not_from_false (a == b) (ne_eqb a b n)

module _ (file : DrawFile) (table : List GroupPlace) where
  pub pot_case : (g n : ℕ) → IsCase file table Pots g n → HasNotOneOfPot file table g n
  pot_case g n h =
      let low = h.is_number.least in
      let high = h.is_number.most in
      record { group = h.is_group; pot = (low, omega arith); not_one = differ_by (number_in table g (teams_of_pot n file)) 1 h.breaks }

  pub case_of_pot : (g n : ℕ) → HasNotOneOfPot file table g n → IsCase file table Pots g n
  case_of_pot g n h =
      let low = h.pot.0 in
      let high = h.pot.1 in
      record { is_group = h.group; is_number = record { least = low; most = omega arith }; breaks = differ (number_in table g (teams_of_pot n file)) 1 h.not_one }

  -- a number is outside a limit where the test says so
  outside_by : (limit : Limit) (n : ℕ) → is_outside limit n ≡ true → IsOutside limit n
  outside_by limit n e = go (or_cases (nat_lt n limit.lo) (nat_lt limit.hi n) e)
    where
      go : (nat_lt n limit.lo ≡ true) ⊎ (nat_lt limit.hi n ≡ true) → IsOutside limit n
      go (inl lt) = inl (ltb-true n limit.lo lt)
      go (inr gt) = inr (ltb-true limit.hi n gt)

  is_outside_by : (limit : Limit) (n : ℕ) → IsOutside limit n → is_outside limit n ≡ true
  is_outside_by limit n (inl lt) = or_left (nat_lt n limit.lo) (nat_lt limit.hi n) (lt-ltb n limit.lo lt)
  is_outside_by limit n (inr gt) = or_right (nat_lt n limit.lo) (nat_lt limit.hi n) (lt-ltb limit.hi n gt)

  pub limit_case : (g n : ℕ) → IsCase file table Limits g n → BreaksLimit file table g n
  limit_case g n h = go (slice_get file.limits n) refl h.breaks
    where
      go : (o : Option Limit) → slice_get file.limits n ≡ o → breaks_limit file table g o ≡ true → BreaksLimit file table g n
      go None is e = cc
      go (Some limit) is e = record { group = h.is_group; limit = limit; is_limit = is; outside = outside_by limit (number_in table g (teams_with limit.tag file)) e }

  pub case_of_limit : (g n : ℕ) → BreaksLimit file table g n → IsCase file table Limits g n
  case_of_limit g n h =
      let within = slice_get_within file.limits n h.limit h.is_limit in
      record {
        is_group = h.group;
        is_number = record { least = omega arith; most = omega arith };
        breaks = ap (breaks_limit file table g) h.is_limit ∙ is_outside_by h.limit (number_in table g (teams_with h.limit.tag file)) h.outside;
      }

  -- no team of pot 1 has position 1 of the group where the test says so
  pub no_head_by : (g : ℕ) → has_head file table g ≡ false → HasNoHead file table g
  no_head_by g e t among stands heads = false≢true (sym (fails_there (has_place table g 1) (teams_of_pot 1 file) e t among) ∙ has_place_by table g 1 t stands heads)

  pub is_no_head : (g : ℕ) → HasNoHead file table g → has_head file table g ≡ false
  is_no_head g none = false_from_ne_true (has_head file table g) (λ e.
      let h = one_passes (has_place table g 1) (teams_of_pot 1 file) e in
      let had = place_had table g 1 h.0 h.2 in
      none h.0 h.1 had.0 had.1)

  pub position_case : (g n : ℕ) → IsCase file table Positions g n → IsWronglyTaken file table g n
  position_case g n h =
      let low = h.is_number.least in
      let high = h.is_number.most in
      record { group = h.is_group; position = (low, omega arith); wrong = go (or_cases (not (number_at table g n == 1)) (n == 1 && not (has_head file table g)) h.breaks) }
    where
      go : (not (number_at table g n == 1) ≡ true) ⊎ ((n == 1 && not (has_head file table g)) ≡ true) → (number_at table g n ≢ 1) ⊎ ((n ≡ 1) × HasNoHead file table g)
      go (inl e) = inl (differ_by (number_at table g n) 1 e)
      go (inr e) =
          let both = and_parts (n == 1) (not (has_head file table g)) e in
          inr (eqb-true n 1 both.0, no_head_by g (not-true (has_head file table g) both.1))

  pub case_of_position : (g n : ℕ) → IsWronglyTaken file table g n → IsCase file table Positions g n
  case_of_position g n h =
      let low = h.position.0 in
      let high = h.position.1 in
      record { is_group = h.group; is_number = record { least = low; most = omega arith }; breaks = go h.wrong }
    where
      go : (number_at table g n ≢ 1) ⊎ ((n ≡ 1) × HasNoHead file table g) → breaks_in file table Positions g n ≡ true
      go (inl e) = or_left (not (number_at table g n == 1)) (n == 1 && not (has_head file table g)) (differ (number_at table g n) 1 e)
      go (inr e) =
          or_right (not (number_at table g n == 1)) (n == 1 && not (has_head file table g))
          (and_from (n == 1) (not (has_head file table g)) (eq-eqb n 1 e.0) (not_from_false (has_head file table g) (is_no_head g e.1)))

-- ---- rule 4

-- two numbers are one where the test says so
one_by : (a b : Option ℕ) (g : ℕ) → a ≡ Some g → b ≡ Some g → have_one a b ≡ true
one_by None b g e f = cc
one_by (Some h) b g e f = let same : h ≡ g = same_item h g e in some_is b h (f ∙ ap Some (sym same))

both_have : (a b : Option ℕ) (g : ℕ) → have_one a b ≡ true → a ≡ Some g → b ≡ Some g
both_have None b g e f = cc
both_have (Some h) b g e f = is_some b h e ∙ f

module _ (file : DrawFile) (table : List GroupPlace) where
  pub pair_case : (k g : ℕ) (pair : Pair) → slice_get file.pairs k ≡ Some pair → group_of table pair.first ≡ Some g → are_together table pair ≡ true → StandTogether file table k g
  pair_case k g pair is one together = record { pair = pair; is_pair = is; one = one; other = both_have (group_of table pair.first) (group_of table pair.second) g together one }

  pub case_of_pair : (k g : ℕ) (h : StandTogether file table k g) → are_together table h.pair ≡ true
  case_of_pair k g h = one_by (group_of table h.pair.first) (group_of table h.pair.second) g h.one h.other
