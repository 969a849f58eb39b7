-- Teams by a test, and how many of them pass another.
use Rattle.std.proofs.Common.{◌≡◌, ℕ, zero, suc, ◌+◌, ◌<◌, Bool, true, false, cond, List, [], ◌∷◌, length, Option, Some, None, ◌⊎◌, inl, inr, slice_get, get_or, drop, arith, refl, sym, ap, ◌∙◌}
use Rattle.std.specs.Prelude.{count_by, ◌==◌, ◌&&◌, if◌then◌else◌, nat_eq, option_map}
use Rattle.std.specs.Option.{option_eq}
use Rattle.std.specs.List.{range_with_len, AllByRecursion as Each}
use Rattle.std.proofs.lemmas.Bool.{cases_order, eqb-true, eq-eqb, ne_eqb}
use Rattle.std.proofs.lemmas.List.Sums.{sum_by-cons}
use Rattle.std.proofs.lemmas.Option.{same_Some, slice_get_within, slice_get-get_or}
use Rattle.team_files.specs.declared.team.Team.{Team}
use Rattle.team_files.specs.declared.team_id.TeamId.{TeamId}
use Rattle.rule_sets.specs.Files.{DrawFile}
use Rattle.draw_tables.specs.Lists.{IsAmong}
use Rattle.draw_tables.specs.Pots.{teams_from, teams_of_pot, teams_with, holds, pot_of, is_of_pot, AreTeamsOf, IsTeamOf}
use Rattle.group_draw.specs.Decoding.{first_in, AreGroupsOf}
use Rattle.list_counts.proofs.Counts.{count_cons}

-- ---- numbers that are told by an option

-- the option is this number
pub is_this : (o : Option ℕ) (n : ℕ) → option_eq nat_eq o (Some n) ≡ true → o ≡ Some n
is_this None n e = cc
is_this (Some m) n e = ap Some (eqb-true m n e)

pub this_is : (o : Option ℕ) (n : ℕ) → o ≡ Some n → option_eq nat_eq o (Some n) ≡ true
this_is o n e = rw e (eq-eqb n n refl)

-- ---- a list from a place on

pub next_at : {X : Type 0} (i : ℕ) (xs : List X) (x : X) → slice_get xs i ≡ Some x → drop i xs ≡ x ∷ drop (i + 1) xs
next_at i [] x e = cc
next_at zero (y ∷ xs) x e = cc
next_at (suc i) (y ∷ xs) x e = let n : suc i + 1 ≡ suc (i + 1) = omega arith in rw n (next_at i xs x e)

module _ {X : Type 0} (P : X → Type 0) (xs : List X) (i : ℕ) (d : X) (lt : i < length xs) (each : Each P (drop i xs)) where
  here : Each P (get_or xs i d ∷ drop (i + 1) xs)
  here = rw (next_at i xs (get_or xs i d) (slice_get-get_or xs i d lt)) at each

  pub each_first : P (get_or xs i d)
  each_first = here.0

  pub each_rest : Each P (drop (i + 1) xs)
  each_rest = here.1

-- each team of a list has a group, where there is one for each team of the file
pub within_groups : (file : DrawFile) (groups : List ℕ) → AreGroupsOf file groups → (teams : List TeamId) (i : ℕ) (d : TeamId) → i < length teams → AreTeamsOf file (drop i teams) → (get_or teams i d).0 < length groups
within_groups file groups of_file teams i d lt each = let size = of_file.size in let h = each_first (IsTeamOf file) teams i d lt each in omega arith

-- ---- the first team with a group

module _ (groups : List ℕ) (group : ℕ) (teams : List TeamId) (i : ℕ) (d : TeamId) (lt : i < length teams) (in_range : (get_or teams i d).0 < length groups) where
  next : drop i teams ≡ get_or teams i d ∷ drop (i + 1) teams
  next = next_at i teams (get_or teams i d) (slice_get-get_or teams i d lt)

  its_group : slice_get groups (get_or teams i d).0 ≡ Some (get_or groups (get_or teams i d).0 0)
  its_group = slice_get-get_or groups (get_or teams i d).0 0 in_range

  pub first_here : get_or groups (get_or teams i d).0 0 ≡ group → first_in groups group (drop i teams) ≡ Some (get_or teams i d)
  first_here e = rw (next, its_group, e, eq-eqb group group refl) refl

  pub first_later : (get_or groups (get_or teams i d).0 0 ≡ group → ⊥) → first_in groups group (drop i teams) ≡ first_in groups group (drop (i + 1) teams)
  first_later n = rw (next, its_group, ne_eqb (get_or groups (get_or teams i d).0 0) group n) refl

-- ---- teams that pass a test

-- a team of the list, counted from i
pub record IsTeamAt (test : Team → Bool) (i : ℕ) (ts : List Team) (t : TeamId) : Type 0 where
  pub place : ℕ
  pub team : Team
  pub number : t.0 ≡ i + place
  pub stands : slice_get ts place ≡ Some team
  pub passes : test team ≡ true

module _ (test : Team → Bool) where
  pub team_among : (i : ℕ) (ts : List Team) (k : ℕ) (t : TeamId) → slice_get (teams_from test i ts) k ≡ Some t → IsTeamAt test i ts t
  team_among i [] k t e = cc
  team_among i (u ∷ ts) k t e = go (test u) refl k e (team_among (i + 1) ts)
    where
      up : IsTeamAt test (i + 1) ts t → IsTeamAt test i (u ∷ ts) t
      up r = record { place = suc r.place; team = r.team; number = (let n = r.number in omega arith); stands = r.stands; passes = r.passes }

      go : (b : Bool) → test u ≡ b → (k : ℕ) → slice_get (if b then record { 0 = i } ∷ teams_from test (i + 1) ts else teams_from test (i + 1) ts) k ≡ Some t
          → ((k : ℕ) (t : TeamId) → slice_get (teams_from test (i + 1) ts) k ≡ Some t → IsTeamAt test (i + 1) ts t) → IsTeamAt test i (u ∷ ts) t
      go true is zero e rest =
          let same = same_Some (record { 0 = i }) t e in
          let number : i ≡ t.0 = ap (λ (x : TeamId). x.0) same in
          record { place = 0; team = u; number = omega arith; stands = refl; passes = is }
      go true is (suc k) e rest = up (rest k t e)
      go false is k e rest = up (rest k t e)

  pub among_teams : (i : ℕ) (ts : List Team) (k : ℕ) (u : Team) (t : TeamId) → slice_get ts k ≡ Some u → test u ≡ true → t.0 ≡ i + k → IsAmong (teams_from test i ts) t
  among_teams i [] k u t e p n = cc
  among_teams i (v ∷ ts) k u t e p n = go (test v) refl k e n (λ j f m. among_teams (i + 1) ts j u t f p m)
    where
      here : (j : ℕ) → t.0 ≡ i + 0 → record { 0 = i } ≡ t
      here j m = let q : i ≡ t.0 = omega arith in ap (λ x. record { 0 = x }) q

      go : (b : Bool) → test v ≡ b → (k : ℕ) → slice_get (v ∷ ts) k ≡ Some u → t.0 ≡ i + k → ((j : ℕ) → slice_get ts j ≡ Some u → t.0 ≡ i + 1 + j → IsAmong (teams_from test (i + 1) ts) t)
          → IsAmong (if b then record { 0 = i } ∷ teams_from test (i + 1) ts else teams_from test (i + 1) ts) t
      go true is zero f m rest = (0, ap Some (here 0 m))
      go true is (suc j) f m rest = let r = rest j f (omega arith) in (suc r.0, r.1)
      go false is zero f m rest = let q : test v ≡ true = ap test (same_Some v u f) ∙ p in cc
      go false is (suc j) f m rest = rest j f (omega arith)

  -- they stand in the order of their numbers
  teams_rise : (i : ℕ) (ts : List Team) (j k : ℕ) (t s : TeamId) → j < k → slice_get (teams_from test i ts) j ≡ Some t → slice_get (teams_from test i ts) k ≡ Some s → t.0 < s.0
  teams_rise i [] j k t s lt e f = cc
  teams_rise i (u ∷ ts) j k t s lt e f = go (test u) j k lt e f (teams_rise (i + 1) ts)
    where
      go : (b : Bool) (j k : ℕ) → j < k
          → slice_get (if b then record { 0 = i } ∷ teams_from test (i + 1) ts else teams_from test (i + 1) ts) j ≡ Some t
          → slice_get (if b then record { 0 = i } ∷ teams_from test (i + 1) ts else teams_from test (i + 1) ts) k ≡ Some s
          → ((j k : ℕ) (t s : TeamId) → j < k → slice_get (teams_from test (i + 1) ts) j ≡ Some t → slice_get (teams_from test (i + 1) ts) k ≡ Some s → t.0 < s.0) → t.0 < s.0
      go true j zero lt e f rest = absurd (omega arith)
      go true zero (suc k) lt e f rest =
          let number : i ≡ t.0 = ap (λ (x : TeamId). x.0) (same_Some (record { 0 = i }) t e) in
          let above = (team_among (i + 1) ts k s f).number in
          omega arith
      go true (suc j) (suc k) lt e f rest = rest j k t s (omega arith) e f
      go false j k lt e f rest = rest j k t s lt e f

  -- so each stands once
  pub teams_once : (i : ℕ) (ts : List Team) (j k : ℕ) (t s : TeamId) → t.0 ≡ s.0 → slice_get (teams_from test i ts) j ≡ Some t → slice_get (teams_from test i ts) k ≡ Some s → j ≡ k
  teams_once i ts j k t s same e f = go (cases_order j k)
    where
      go : (j ≡ k) ⊎ ((j < k) ⊎ (k < j)) → j ≡ k
      go (inl q) = q
      go (inr (inl lt)) = let l = teams_rise i ts j k t s lt e f in absurd (omega arith)
      go (inr (inr gt)) = let l = teams_rise i ts k j s t gt f e in absurd (omega arith)

  -- how many of them pass another test, counted by their numbers
  pub count_teams : (p : TeamId → Bool) (q : ℕ → Bool) (ts : List Team) (i : ℕ)
      → ((j k : ℕ) (u : Team) → j ≡ i + k → slice_get ts k ≡ Some u → (p (record { 0 = j }) && test u) ≡ q j)
      → count_by p (teams_from test i ts) ≡ count_by q (range_with_len i (length ts))
  count_teams p q [] i h = refl
  count_teams p q (u ∷ ts) i h = go (test u) refl (count_teams p q ts (i + 1) (λ j k v e f. h j (suc k) v (omega arith) f))
    where
      right : count_by q (i ∷ range_with_len (i + 1) (length ts)) ≡ cond (q i) 1 0 + count_by q (range_with_len (i + 1) (length ts))
      right = sum_by-cons (λ j. cond (q j) 1 0) i (range_with_len (i + 1) (length ts))

      both : (a : Bool) → (a && true) ≡ a
      both true = refl
      both false = refl

      neither : (a : Bool) → (a && false) ≡ false
      neither true = refl
      neither false = refl

      here : (b : Bool) → test u ≡ b → (p (record { 0 = i }) && b) ≡ q i
      here b is = ap (λ x. p (record { 0 = i }) && x) (sym is) ∙ h i 0 u (omega arith) refl

      go : (b : Bool) → test u ≡ b → count_by p (teams_from test (i + 1) ts) ≡ count_by q (range_with_len (i + 1) (length ts))
          → count_by p (if b then record { 0 = i } ∷ teams_from test (i + 1) ts else teams_from test (i + 1) ts) ≡ count_by q (range_with_len i (suc (length ts)))
      go true is rest =
          let bit : ◌≡◌ {A = ℕ} (cond (p (record { 0 = i })) 1 0) (cond (q i) 1 0) = ap (λ b. cond b 1 0) (sym (both (p (record { 0 = i }))) ∙ here true is) in
          let left = count_cons p (record { 0 = i }) (teams_from test (i + 1) ts) in
          let s = right in
          omega arith
      go false is rest =
          let bit : ◌≡◌ {A = ℕ} 0 (cond (q i) 1 0) = ap (λ b. cond b 1 0) (sym (neither (p (record { 0 = i }))) ∙ here false is) in
          let s = right in
          omega arith

  -- ---- one team after the other

  -- a team that does not pass is left out
  pub teams_skip : (i : ℕ) (ts : List Team) (u : Team) → slice_get ts i ≡ Some u → test u ≡ false → teams_from test i (drop i ts) ≡ teams_from test (i + 1) (drop (i + 1) ts)
  teams_skip i ts u e fails = rw (next_at i ts u e, fails) refl

  -- another is kept
  pub teams_push : (i : ℕ) (ts : List Team) (u : Team) → slice_get ts i ≡ Some u → test u ≡ true → teams_from test i (drop i ts) ≡ record { 0 = i } ∷ teams_from test (i + 1) (drop (i + 1) ts)
  teams_push i ts u e passes = rw (next_at i ts u e, passes) refl

-- ---- teams of a file

module _ (file : DrawFile) where
  teams_of_file : (test : Team → Bool) (k : ℕ) (t : TeamId) → slice_get (teams_from test 0 file.teams) k ≡ Some t → IsTeamOf file t
  teams_of_file test k t e =
      let r = team_among test 0 file.teams k t e in
      let n = r.number in
      let lt = slice_get_within file.teams r.place r.team r.stands in
      omega arith

  pub of_pot : (pot k : ℕ) (t : TeamId) → slice_get (teams_of_pot pot file) k ≡ Some t → IsTeamOf file t
  of_pot pot k t e = teams_of_file (λ u. u.pot == pot) k t e

  pub of_tag : (tag : List ℕ) (k : ℕ) (t : TeamId) → slice_get (teams_with tag file) k ≡ Some t → IsTeamOf file t
  of_tag tag k t e = teams_of_file (holds tag) k t e

  -- the pot of a team that stands in a pot
  pub pot_is : (pot k : ℕ) (t : TeamId) → slice_get (teams_of_pot pot file) k ≡ Some t → pot_of file t ≡ Some pot
  pot_is pot k t e =
      let r = team_among (λ u. u.pot == pot) 0 file.teams k t e in
      let n = r.number in
      let here : t.0 ≡ r.place = omega arith in
      ap (λ j. option_map (λ team. team.pot) (slice_get file.teams j)) here
      ∙ ap (option_map (λ team. team.pot)) r.stands ∙ ap Some (eqb-true r.team.pot pot r.passes)

  -- a team stands in its pot
  pub in_pot : (pot : ℕ) (t : TeamId) → pot_of file t ≡ Some pot → IsAmong (teams_of_pot pot file) t
  in_pot pot t e = go (slice_get file.teams t.0) refl e
    where
      go : (o : Option Team) → slice_get file.teams t.0 ≡ o → option_map (λ team. team.pot) o ≡ Some pot → IsAmong (teams_of_pot pot file) t
      go None is f = cc
      go (Some u) is f = among_teams (λ v. v.pot == pot) 0 file.teams t.0 u t is (eq-eqb u.pot pot (same_Some u.pot pot f)) (omega arith)

  pub of_pot_is : (pot : ℕ) (t : TeamId) → is_of_pot file pot t ≡ true → pot_of file t ≡ Some pot
  of_pot_is pot t e = is_this (pot_of file t) pot e

  pub is_of : (pot : ℕ) (t : TeamId) → pot_of file t ≡ Some pot → is_of_pot file pot t ≡ true
  is_of pot t e = this_is (pot_of file t) pot e
