-- What is known of the positions of a group's teams can be met at once.
use Rattle.std.proofs.Common.{◌≡◌, ℕ, ◌+◌, ◌<◌, ◌≤◌, ◌⊎◌, inl, inr, Bool, true, false, List, Option, Some, None, slice_get, arith, refl, sym, ap, ◌∙◌, subst}
use Rattle.std.specs.Prelude.{◌==◌, if◌then◌else◌, nat_eq, option_map, option_and_then, find}
use Rattle.std.specs.Option.{option_eq, option_or}
use Rattle.std.proofs.lemmas.Bool.{cases_Bool, cases_eq, eqb-true, eq-eqb}
use Rattle.std.proofs.lemmas.List.{length-map}
use Rattle.std.proofs.lemmas.List.FromFn.{length-range_with_len}
use Rattle.std.proofs.lemmas.Option.{same_Some, slice_get_within}
use Rattle.team_files.specs.declared.kind.Kind.{Kind}
use Rattle.team_files.specs.declared.team_id.TeamId.{TeamId}
use Rattle.rule_sets.specs.declared.place.Place.{Place}
use Rattle.rule_sets.specs.Files.{DrawFile}
use Rattle.rule_sets.specs.Forms.{HasForm}
use Rattle.list_counts.specs.Filling.{AreClean}
use Rattle.list_counts.proofs.Entries.{find_among, find_has, find_same, map_among, range_at}
use Rattle.list_counts.proofs.Counts.{found_one, one_place}
use Rattle.draw_tables.specs.declared.group_place.GroupPlace.{GroupPlace}
use Rattle.draw_tables.specs.declared.moves.Move.{Move}
use Rattle.draw_tables.specs.declared.moves.Move.TheVariants.{Drawn, Placed, Positioned, Paired}
use Rattle.draw_tables.specs.Lists.{IsAmong}
use Rattle.draw_tables.specs.Pots.{pot_of, pots_of, is_of_pot, teams_of_pot, IsPot}
use Rattle.draw_tables.specs.Moves.{group_in, position_by, position_in}
use Rattle.draw_tables.specs.GroupTables.{group_of, stands_in}
use Rattle.draw_tables.specs.Positions.{HasCleanPositions}
use Rattle.draw_tables.proofs.Numbers.{same_id}
use Rattle.group_draw.specs.Decoding.{given_groups, place_of, fixed_position, wish_of, team_in, wish_in, wishes_in}
use Rattle.group_draw.specs.Correspondence.{KeepsGroupRules}
use Rattle.group_draw.proofs.Teams.{is_this, this_is, pot_is, in_pot, of_pot_is}
use Rattle.group_draw.proofs.StateMoves.{SaysOnce, last_among}
use Rattle.group_draw.proofs.FixedPlaces.{place_within, first_place, later_place, one_place_of_team, one_team_of_place}
use Rattle.group_draw.proofs.Reading.{given_group}

-- ---- where a wish comes from

-- a fixed place of the team has the position
abbrev HasFixed : DrawFile → TeamId → ℕ → Type 0
HasFixed file t p = (place : Place) × IsAmong file.places place × (place.team ≡ t) × (place.position ≡ p)

abbrev Source : DrawFile → List Move → TeamId → ℕ → Type 0
Source file ms t p =
    ((is_of_pot file 1 t ≡ true) × (p ≡ 1))
    ⊎ ((is_of_pot file 1 t ≡ false) × (IsAmong ms (Positioned t p) ⊎ HasFixed file t p))

position_among : (ms : List Move) (t : TeamId) (p : ℕ) → position_in ms t ≡ Some p → IsAmong ms (Positioned t p)
position_among ms t p e = let m = last_among (position_by t) ms p e in subst (IsAmong ms) (is m.0 m.2) m.1
  where
    is : (m : Move) → position_by t m ≡ Some p → m ≡ Positioned t p
    is (Drawn s) f = cc
    is (Placed s k) f = cc
    is (Paired r w) f = cc
    is (Positioned s q) f = by_test (cases_Bool (s.0 == t.0))
      where
        by_test : ((s.0 == t.0) ≡ true) ⊎ ((s.0 == t.0) ≡ false) → ◌≡◌ {A = Move} (Positioned s q) (Positioned t p)
        by_test (inl z) =
            let a = same_id s t (eqb-true s.0 t.0 z) in
            let b = same_Some q p (sym (ap (λ b. if b then Some q else None) z) ∙ f) in
            rw (a, b) refl
        by_test (inr z) = let w = sym (ap (λ b. if b then Some q else None) z) ∙ f in cc

fixed_among : (file : DrawFile) (t : TeamId) (p : ℕ) → fixed_position file t ≡ Some p → HasFixed file t p
fixed_among file t p e = go (place_of file t) refl e
  where
    go : (o : Option Place) → place_of file t ≡ o → option_map (λ place. place.position) o ≡ Some p → HasFixed file t p
    go None is f = cc
    go (Some place) is f =
        let found = find_among (λ place. place.team.0 == t.0) file.places place is in
        (place, found.0, same_id place.team t (eqb-true place.team.0 t.0 found.1), same_Some place.position p f)

source : (file : DrawFile) (ms : List Move) (t : TeamId) (p : ℕ) → wish_of file ms t ≡ Some p → Source file ms t p
source file ms t p e = go (is_of_pot file 1 t) refl e
  where
    other : is_of_pot file 1 t ≡ false → (o : Option ℕ) → position_in ms t ≡ o → option_or o (fixed_position file t) ≡ Some p → Source file ms t p
    other is (Some q) at f = inr (is, inl (position_among ms t p (at ∙ f)))
    other is None at f = inr (is, inr (fixed_among file t p f))

    go : (b : Bool) → is_of_pot file 1 t ≡ b → (if b then Some 1 else option_or (position_in ms t) (fixed_position file t)) ≡ Some p → Source file ms t p
    go true is f = inl (is, sym (same_Some 1 p f))
    go false is f = other is (position_in ms t) refl f

-- ---- the wishes of a table's groups

module _ (file : DrawFile) (kind : file.kind ≡ Kind.Group) (form : HasForm file) (ms : List Move) (says : SaysOnce file ms) (clean : HasCleanPositions file ms)
    (table : List GroupPlace) (keeps : KeepsGroupRules file table)
    (groups : (t : TeamId) (group : ℕ) → IsAmong ms (Placed t group) → group_of table t ≡ Some group) where
  -- the table has a positioned team in the group that the moves give it
  group_said : (t : TeamId) (g p : ℕ) → IsAmong ms (Positioned t p) → group_of table t ≡ Some g → group_in ms t ≡ Some g
  group_said t g p m in_t =
      let at = says.positioned t p m in
      (says.placed t at.group at.placed).2 ∙ sym (groups t at.group at.placed) ∙ in_t

  -- a ball does not give a team another position than its fixed place
  pub ball_is_fixed : (place : Place) (p : ℕ) → IsAmong file.places place → IsAmong ms (Positioned place.team p) → p ≡ place.position
  ball_is_fixed place p n m = go (cases_eq p place.position)
    where
      go : (p ≡ place.position) ⊎ (p ≡ place.position → ⊥) → p ≡ place.position
      go (inl e) = e
      go (inr differs) = absurd (clean place.team place.group p m (group_said place.team place.group p m (keeps.fixed_group place n)) (inr (record { place = place; fixed = n; own = refl; other = λ e. differs (sym e) })))

  -- a team's fixed place is what is known of its position
  pub fixed_wish : (place : Place) → IsAmong file.places place → wish_of file ms place.team ≡ Some place.position
  fixed_wish place n = go (is_of_pot file 1 place.team) refl
    where
      first : (o : Option Place) → place_of file place.team ≡ o → option_map (λ x. x.position) o ≡ Some place.position
      first (Some x) is =
          let found = find_among (λ x. x.team.0 == place.team.0) file.places x is in
          ap (λ y. Some y.position) (one_place_of_team file kind form x place found.0 n (eqb-true x.team.0 place.team.0 found.1))
      first None is =
          let has = find_has (λ x. x.team.0 == place.team.0) file.places n.0 place n.1 (eq-eqb place.team.0 place.team.0 refl) in
          let some = sym is ∙ has.1 in
          cc

      ball : (o : Option ℕ) → position_in ms place.team ≡ o → option_or o (fixed_position file place.team) ≡ Some place.position
      ball (Some q) at = ap Some (ball_is_fixed place q n (position_among ms place.team q at))
      ball None at = first (place_of file place.team) refl

      go : (b : Bool) → is_of_pot file 1 place.team ≡ b → (if b then Some 1 else option_or (position_in ms place.team) (fixed_position file place.team)) ≡ Some place.position
      go true is = ap Some (sym (first_place file kind form place n is))
      go false is = ball (position_in ms place.team) refl

  -- ---- two teams of one group do not wish the same

  module _ (g p : ℕ) where
    group_fixed : (x : TeamId) (place : Place) → IsAmong file.places place → place.team ≡ x → group_of table x ≡ Some g → place.group ≡ g
    group_fixed x place m e in_x = same_Some place.group g (sym (keeps.fixed_group place m) ∙ ap (group_of table) e ∙ in_x)

    -- a team of a later pot has a later position
    low : (x : TeamId) → is_of_pot file 1 x ≡ false → (IsAmong ms (Positioned x p) ⊎ HasFixed file x p) → 2 ≤ p
    low x is (inl m) = (says.positioned x p m).low
    low x is (inr f) = let l = later_place file kind form f.0 f.1 (ap (is_of_pot file 1) f.2 ∙ is) in let e = f.3 in omega arith

    -- one by a ball, the other by a fixed place
    mixed : (x y : TeamId) → (y.0 ≡ x.0 → ⊥) → group_of table x ≡ Some g → group_of table y ≡ Some g → IsAmong ms (Positioned x p)
        → HasFixed file y p → ⊥
    mixed x y n in_x in_y m f =
        let k = group_fixed y f.0 f.1 f.2 in_y in
        let team = f.2 in
        let position = f.3 in
        let here : ◌≡◌ {A = Place} f.0 (record { team = y; group = g; position = p }) = rw (← team, ← k, ← position) refl in
        clean x g p m (group_said x g p m in_x) (inl (y, inr (record { differs = n; fixed = subst (IsAmong file.places) here f.1 })))

    module _ (t s : TeamId) (in_t : group_of table t ≡ Some g) (in_s : group_of table s ≡ Some g) where
      abbrev Same : Type 0
      Same = (t.0 ≡ s.0) ⊎ ((is_of_pot file 1 t ≡ true) × (is_of_pot file 1 s ≡ true))

      different : (t.0 ≡ s.0 → ⊥) → Source file ms t p → Source file ms s p → Same
      different n (inl a) (inl b) = inr (a.0, b.0)
      different n (inl a) (inr b) = let l = low s b.0 b.1 in let e = a.1 in absurd (omega arith)
      different n (inr a) (inl b) = let l = low t a.0 a.1 in let e = b.1 in absurd (omega arith)
      different n (inr (i, inl a)) (inr (j, inl b)) = absurd (clean t g p a (group_said t g p a in_t) (inl (s, inl (record { differs = λ e. n (sym e); stands = group_said s g p b in_s; move = b }))))
      different n (inr (i, inl a)) (inr (j, inr b)) = absurd (mixed t s (λ e. n (sym e)) in_t in_s a b)
      different n (inr (i, inr a)) (inr (j, inl b)) = absurd (mixed s t n in_s in_t b a)
      different n (inr (i, inr a)) (inr (j, inr b)) =
          let same = one_team_of_place file kind form a.0 b.0 a.1 b.1 (group_fixed t a.0 a.1 a.2 in_t ∙ sym (group_fixed s b.0 b.1 b.2 in_s)) (a.3 ∙ sym b.3) in
          inl (ap (λ (x : TeamId). x.0) (sym a.2 ∙ ap (λ (x : Place). x.team) same ∙ b.2))

      wishes_apart : wish_of file ms t ≡ Some p → wish_of file ms s ≡ Some p → Same
      wishes_apart wish_t wish_s = by_team (cases_eq t.0 s.0)
        where
          by_team : (t.0 ≡ s.0) ⊎ (t.0 ≡ s.0 → ⊥) → Same
          by_team (inl e) = inl e
          by_team (inr n) = different n (source file ms t p wish_t) (source file ms s p wish_s)

  -- ---- the team of a pot in a group

  stands_same : (g : ℕ) (t : TeamId) → option_eq nat_eq (slice_get (given_groups table) t.0) (Some g) ≡ stands_in table g t
  stands_same g t = ap (λ o. option_eq nat_eq o (Some g)) (given_group table t)

  found_in : (g pot : ℕ) → team_in file (given_groups table) g pot ≡ find (stands_in table g) (teams_of_pot pot file)
  found_in g pot = find_same (λ t. option_eq nat_eq (slice_get (given_groups table) t.0) (Some g)) (stands_in table g) (teams_of_pot pot file) (λ k t e. stands_same g t)

  pub team_found : (g pot : ℕ) (t : TeamId) → g < file.groups → IsPot file pot → group_of table t ≡ Some g → pot_of file t ≡ Some pot → team_in file (given_groups table) g pot ≡ Some t
  team_found g pot t lt is in_t of_t =
      let one = keeps.pots g pot lt is in
      let found = found_one (stands_in table g) (teams_of_pot pot file) one in
      let at = in_pot file pot t of_t in
      let place = one_place (stands_in table g) (teams_of_pot pot file) one found.2.0 at.0 found.0 t found.2.1 found.3 at.1 (this_is (group_of table t) g in_t) in
      found_in g pot ∙ found.1 ∙ sym found.2.1 ∙ ap (slice_get (teams_of_pot pot file)) place ∙ at.1

  -- what stands at a place of the wishes is the wish of the pot's team in the group
  wish_at : (g k p : ℕ) → slice_get (wishes_in file ms (given_groups table) g) k ≡ Some (Some p)
      → (t : TeamId) × (group_of table t ≡ Some g) × (pot_of file t ≡ Some (1 + k)) × (wish_of file ms t ≡ Some p) × (k < file.pots)
  wish_at g k p e =
      let m = map_among (wish_in file ms (given_groups table) g) (pots_of file) k (Some p) e in
      let lt : k < file.pots = omega (arith, slice_get_within (pots_of file) k m.0 m.1, length-range_with_len 1 file.pots) in
      let pot : m.0 ≡ 1 + k = same_Some m.0 (1 + k) (sym m.1 ∙ range_at 1 file.pots k lt) in
      from lt (team_in file (given_groups table) g m.0) m.0 refl pot m.2
    where
      from : k < file.pots → (o : Option TeamId) (pot : ℕ) → team_in file (given_groups table) g pot ≡ o → pot ≡ 1 + k → option_and_then (wish_of file ms) o ≡ Some p
          → (t : TeamId) × (group_of table t ≡ Some g) × (pot_of file t ≡ Some (1 + k)) × (wish_of file ms t ≡ Some p) × (k < file.pots)
      from lt None pot is pot_k f = cc
      from lt (Some t) pot is pot_k f =
          let found = find_among (stands_in table g) (teams_of_pot pot file) t (sym (found_in g pot) ∙ is) in
          (t, is_this (group_of table t) g found.1, pot_is file pot found.0.0 t found.0.1 ∙ ap Some pot_k, f, lt)

  -- the wishes of a group can be met at once
  pub wishes_clean : (g : ℕ) → AreClean (wishes_in file ms (given_groups table) g)
  wishes_clean g = record {
    within = λ k p e.
        let size = length-map (pots_of file) (wish_in file ms (given_groups table) g) in
        let pots = length-range_with_len 1 file.pots in
        let w = wish_at g k p e in
        let r = within w.0 p w.4 (source file ms w.0 p w.3) in
        let l = r.0 in
        let u = r.1 in
        (l, omega arith);
    apart = λ j k p e f.
        let a = wish_at g j p e in
        let b = wish_at g k p f in
        same_pot j k a.0 b.0 a.2 b.2 (wishes_apart g p a.0 b.0 a.1 b.1 a.3 b.3);
  }
    where
      within : (t : TeamId) (p : ℕ) → {k : ℕ} → k < file.pots → Source file ms t p → (1 ≤ p) × (p ≤ file.pots)
      within t p lt (inl a) = let e = a.1 in (omega arith, omega arith)
      within t p lt (inr (is, inl m)) = let at = says.positioned t p m in let l = at.low in let u = at.high in (omega arith, omega arith)
      within t p lt (inr (is, inr f)) = let r = place_within file kind form f.0 f.1 in let e = f.3 in let l = r.0 in let u = r.1 in (omega arith, omega arith)

      same_pot : (j k : ℕ) (t s : TeamId) → pot_of file t ≡ Some (1 + j) → pot_of file s ≡ Some (1 + k)
          → (t.0 ≡ s.0) ⊎ ((is_of_pot file 1 t ≡ true) × (is_of_pot file 1 s ≡ true)) → j ≡ k
      same_pot j k t s of_t of_s (inl e) =
          let same : 1 + j ≡ 1 + k = same_Some (1 + j) (1 + k) (sym of_t ∙ ap (pot_of file) (same_id t s e) ∙ of_s) in
          omega arith
      same_pot j k t s of_t of_s (inr both) =
          let a : 1 + j ≡ 1 = same_Some (1 + j) 1 (sym of_t ∙ of_pot_is file 1 t both.0) in
          let b : 1 + k ≡ 1 = same_Some (1 + k) 1 (sym of_s ∙ of_pot_is file 1 s both.1) in
          omega arith
