-- The moves on the way to a table: pot by pot and group by group, what the balls of one team change of what the moves say.
use Rattle.std.proofs.Common.{◌≡◌, ◌≢◌, ℕ, ◌+◌, ◌<◌, ◌⊎◌, inl, inr, Bool, true, false, not, List, [], ◌∷◌, ◌++◌, Some, None, arith, refl, sym, ap, ◌∙◌, subst}
use Rattle.std.specs.Prelude.{◌==◌, ◌&&◌, ◌||◌, if◌then◌else◌, nat_eq, is_none, option_and_then}
use Rattle.std.specs.List.{list_any}
use Rattle.std.specs.Option.{option_eq}
use Rattle.std.proofs.lemmas.Bool.{cases_Bool, cases_order, eqb-true, eq-eqb, ne_eqb}
use Rattle.team_files.specs.declared.team_id.TeamId.{TeamId}
use Rattle.team_files.specs.Members.{where_true}
use Rattle.rule_sets.specs.Files.{DrawFile}
use Rattle.draw_tables.specs.declared.group_table.GroupTable.{GroupTable}
use Rattle.draw_tables.specs.declared.table.Table.TheVariants.{Group}
use Rattle.draw_tables.specs.declared.moves.Move.{Move}
use Rattle.draw_tables.specs.declared.moves.Move.TheVariants.{Drawn, Placed, Positioned}
use Rattle.draw_tables.specs.Pots.{IsPot, is_of_pot}
use Rattle.draw_tables.specs.Moves.{draws, is_drawn, drawn_team, last_drawn, placed_team, last_placed, group_by, group_in, position_by, position_in}
use Rattle.draw_tables.specs.GroupPhases.{without_group, without_position, has_position_ball, places_in, has_placed}
use Rattle.draw_tables.specs.GroupTables.{position_of, IsLegalGroups}
use Rattle.draw_tables.specs.Offers.{Extends}
use Rattle.draw_tables.proofs.HeldPositions.{last_same, last_here, extends_more}
use Rattle.draw_state.proofs.TablePlaces.{IsTeamAt, of_pot, in_group, one_pot_and_group, one_team}

-- ---- one more move

module _ {A : Type 0} (p : A → Bool) where
  pub any_same : (xs : List A) (x : A) → p x ≡ false → list_any p (xs ++ x ∷ []) ≡ list_any p xs
  any_same [] x e = ap (λ b. b || false) e
  any_same (y ∷ xs) x e = ap (λ b. p y || b) (any_same xs x e)

  pub any_here : (xs : List A) (x : A) → p x ≡ true → list_any p (xs ++ x ∷ []) ≡ true
  any_here [] x e = ap (λ b. b || false) e
  any_here (y ∷ xs) x e = go (p y) (any_here xs x e)
    where
      go : (b : Bool) → list_any p (xs ++ x ∷ []) ≡ true → (b || list_any p (xs ++ x ∷ [])) ≡ true
      go true h = refl
      go false h = h

  pub any_kept : (xs : List A) (x : A) → list_any p xs ≡ true → list_any p (xs ++ x ∷ []) ≡ true
  any_kept xs x e = go (cases_Bool (p x))
    where
      go : (p x ≡ true) ⊎ (p x ≡ false) → list_any p (xs ++ x ∷ []) ≡ true
      go (inl h) = any_here xs x h
      go (inr h) = any_same xs x h ∙ e

-- ---- the order of the balls

-- the groups of the lower pots, and the groups below k of this one
abbrev pub Before : ℕ → ℕ → ℕ → ℕ → Type 0
Before pot k p g = (p < pot) ⊎ ((p ≡ pot) × (g < k))

split : (pot k p g : ℕ) → Before pot (k + 1) p g → Before pot k p g ⊎ ((p ≡ pot) × (g ≡ k))
split pot k p g (inl lt) = inl (inl lt)
split pot k p g (inr h) = go (cases_order g k)
  where
    go : (g ≡ k) ⊎ ((g < k) ⊎ (k < g)) → Before pot k p g ⊎ ((p ≡ pot) × (g ≡ k))
    go (inl e) = inr (h.0, e)
    go (inr (inl lt)) = inl (inr (h.0, lt))
    go (inr (inr gt)) = let low = h.1 in absurd (omega arith)

wider : (pot k p g : ℕ) → Before pot k p g → Before pot (k + 1) p g
wider pot k p g (inl lt) = inl lt
wider pot k p g (inr h) = let low = h.1 in inr (h.0, omega arith)

pub not_before : (pot k : ℕ) → Before pot k pot k → ⊥
not_before pot k (inl lt) = omega arith
not_before pot k (inr h) = let low = h.1 in omega arith

module _ (file : DrawFile) (table : GroupTable) (legal : IsLegalGroups file table.places) where
  abbrev TeamAt : ℕ → ℕ → TeamId → Type 0
  TeamAt p g t = IsTeamAt file table.places legal p g t

  -- ---- what the moves say on the way

  -- The moves drew the teams of the lower pots, and of this pot those of the groups below k, and nobody waits.
  pub record IsAt (pot k : ℕ) (ms : List Move) : Type 0 where
    pub drawn : (p g : ℕ) (s : TeamId) → g < file.groups → IsPot file p → TeamAt p g s → Before pot k p g
        → (is_drawn s ms ≡ true) × (group_in ms s ≡ Some g) × (p ≢ 1 → position_in ms s ≡ position_of table.places s)
    pub fresh : (p g : ℕ) (s : TeamId) → TeamAt p g s → (Before pot k p g → ⊥)
        → (is_drawn s ms ≡ false) × (group_in ms s ≡ None) × (position_in ms s ≡ None)
    pub placed : (p g : ℕ) → g < file.groups → IsPot file p → Before pot k p g → has_placed file ms p g ≡ true
    pub free : (p g : ℕ) → (Before pot k p g → ⊥) → has_placed file ms p g ≡ false
    pub no_group : without_group ms ≡ None
    pub no_position : without_position file ms ≡ None
    pub extends : Extends file (Group table) ms

  -- The new moves draw the team t of pot and group k whole.
  pub record DrawsWhole (pot k : ℕ) (t : TeamId) (ms new : List Move) : Type 0 where
    pub drawn_t : is_drawn t new ≡ true
    pub group_t : group_in new t ≡ Some k
    pub position_t : pot ≢ 1 → position_in new t ≡ position_of table.places t
    pub drawn_s : (s : TeamId) → (t.0 == s.0) ≡ false → is_drawn s new ≡ is_drawn s ms
    pub group_s : (s : TeamId) → (t.0 == s.0) ≡ false → group_in new s ≡ group_in ms s
    pub position_s : (s : TeamId) → (t.0 == s.0) ≡ false → position_in new s ≡ position_in ms s
    pub placed_here : has_placed file new pot k ≡ true
    pub placed_kept : (p g : ℕ) → has_placed file ms p g ≡ true → has_placed file new p g ≡ true
    pub free_kept : (p g : ℕ) → ((p ≡ pot) × (g ≡ k) → ⊥) → has_placed file ms p g ≡ false → has_placed file new p g ≡ false
    pub no_group : without_group new ≡ None
    pub no_position : without_position file new ≡ None
    pub extends : Extends file (Group table) new

  pub step : (pot k : ℕ) (t : TeamId) (ms new : List Move) → k < file.groups → IsPot file pot → TeamAt pot k t → IsAt pot k ms → DrawsWhole pot k t ms new → IsAt pot (k + 1) new
  step pot k t ms new in_groups in_pots is at adds = record {
    drawn = λ p g s lt ip h b. drawn p g s lt ip h (split pot k p g b);
    fresh = λ p g s h n.
        let old = at.fresh p g s h (λ b. n (wider pot k p g b)) in
        let other : (t.0 == s.0) ≡ false = ne_eqb t.0 s.0 (λ e. (let a = one_pot_and_group file table.places legal pot k p g t s is h e in n (inr (sym a.0, (let q = a.1 in omega arith))))) in
        (adds.drawn_s s other ∙ old.0, adds.group_s s other ∙ old.1, adds.position_s s other ∙ old.2);
    placed = λ p g lt ip b. placed p g lt ip (split pot k p g b);
    free = λ p g n. adds.free_kept p g (λ h. n (inr (h.0, (let q = h.1 in omega arith)))) (at.free p g (λ b. n (wider pot k p g b)));
    no_group = adds.no_group;
    no_position = adds.no_position;
    extends = adds.extends;
  }
    where
      drawn : (p g : ℕ) (s : TeamId) → g < file.groups → IsPot file p → TeamAt p g s → Before pot k p g ⊎ ((p ≡ pot) × (g ≡ k))
          → (is_drawn s new ≡ true) × (group_in new s ≡ Some g) × (p ≢ 1 → position_in new s ≡ position_of table.places s)
      drawn p g s lt ip h (inl b) =
          let old = at.drawn p g s lt ip h b in
          let other : (t.0 == s.0) ≡ false = ne_eqb t.0 s.0 (λ e. (let a = one_pot_and_group file table.places legal pot k p g t s is h e in not_before pot k (subst (λ x. Before pot k pot x) (sym a.1) (subst (λ x. Before pot k x g) (sym a.0) b)))) in
          (adds.drawn_s s other ∙ old.0, adds.group_s s other ∙ old.1, λ n. adds.position_s s other ∙ old.2 n)
      drawn p g s lt ip h (inr q) =
          let here : TeamAt pot k s = subst (λ x. TeamAt pot x s) q.1 (subst (λ x. TeamAt x g s) q.0 h) in
          let same = one_team file table.places legal pot k t s in_groups in_pots is here in
          (subst (λ x. is_drawn x new ≡ true) same adds.drawn_t, subst (λ x. group_in new x ≡ Some g) same (adds.group_t ∙ ap Some (sym q.1)), λ n. subst (λ x. position_in new x ≡ position_of table.places x) same (adds.position_t (λ e. n (q.0 ∙ e))))

      placed : (p g : ℕ) → g < file.groups → IsPot file p → Before pot k p g ⊎ ((p ≡ pot) × (g ≡ k)) → has_placed file new p g ≡ true
      placed p g lt ip (inl b) = adds.placed_kept p g (at.placed p g lt ip b)
      placed p g lt ip (inr q) = subst (λ x. has_placed file new x g ≡ true) (sym q.0) (subst (λ x. has_placed file new pot x ≡ true) (sym q.1) adds.placed_here)

  pub start : IsAt 1 0 []
  start = record {
    drawn = λ p g s lt ip h b. absurd (none p g ip b);
    fresh = λ p g s h n. (refl, refl, refl);
    placed = λ p g lt ip b. absurd (none p g ip b);
    free = λ p g n. refl;
    no_group = refl;
    no_position = refl;
    extends = tt;
  }
    where
      none : (p g : ℕ) → IsPot file p → Before 1 0 p g → ⊥
      none p g ip (inl lt) = let low = ip.0 in omega arith
      none p g ip (inr h) = let low = h.1 in omega arith

  pub next_pot : (pot : ℕ) (ms : List Move) → IsAt pot file.groups ms → IsAt (pot + 1) 0 ms
  next_pot pot ms at = record {
    drawn = λ p g s lt ip h b. at.drawn p g s lt ip h (back p g lt b);
    fresh = λ p g s h n. at.fresh p g s h (λ b. n (forth p g b));
    placed = λ p g lt ip b. at.placed p g lt ip (back p g lt b);
    free = λ p g n. at.free p g (λ b. n (forth p g b));
    no_group = at.no_group;
    no_position = at.no_position;
    extends = at.extends;
  }
    where
      forth : (p g : ℕ) → Before pot file.groups p g → Before (pot + 1) 0 p g
      forth p g (inl lt) = inl (omega arith)
      forth p g (inr h) = let same = h.0 in inl (omega arith)

      back : (p g : ℕ) → g < file.groups → Before (pot + 1) 0 p g → Before pot file.groups p g
      back p g lt (inl h) = go (cases_order p pot)
        where
          go : (p ≡ pot) ⊎ ((p < pot) ⊎ (pot < p)) → Before pot file.groups p g
          go (inl e) = inr (e, lt)
          go (inr (inl l)) = inl l
          go (inr (inr gt)) = absurd (omega arith)
      back p g lt (inr h) = let low = h.1 in absurd (omega arith)

  -- ---- the moves of one team

  module _ (pot k : ℕ) (t : TeamId) (ms : List Move) (is : TeamAt pot k t) (at : IsAt pot k ms) where
    -- the moves with the team drawn, then placed
    abbrev pub ms1 : List Move
    ms1 = ms ++ Drawn t ∷ []

    abbrev pub ms2 : List Move
    ms2 = ms1 ++ Placed t k ∷ []

    t_self : (t.0 == t.0) ≡ true
    t_self = eq-eqb t.0 t.0 refl

    pub new_t : (is_drawn t ms ≡ false) × (group_in ms t ≡ None) × (position_in ms t ≡ None)
    new_t = at.fresh pot k t is (not_before pot k)

    last_drawn_1 : last_drawn ms1 ≡ Some t
    last_drawn_1 = last_here drawn_team ms (Drawn t) t refl

    -- drawn, the team waits for its group
    pub waits_for_its_group : without_group ms1 ≡ Some t
    waits_for_its_group =
        ap (option_and_then (λ s. where_true (is_none (group_in ms1 s)) s)) last_drawn_1
        ∙ ap (λ o. where_true (is_none o) t) (last_same (group_by t) ms (Drawn t) refl ∙ new_t.1)

    pub free_here : has_placed file ms1 pot k ≡ false
    free_here = any_same (places_in file pot k) ms (Drawn t) refl ∙ at.free pot k (not_before pot k)

    pub extends_1 : Extends file (Group table) ms1
    extends_1 = extends_more file (Group table) ms (Drawn t) at.extends tt

    pub extends_2 : Extends file (Group table) ms2
    extends_2 = extends_more file (Group table) ms1 (Placed t k) extends_1 (in_group file table.places legal pot k t is)

    group_k : group_in ms2 t ≡ Some k
    group_k = last_here (group_by t) ms1 (Placed t k) k (ap (λ b. if b then Some k else None) t_self)

    last_drawn_2 : last_drawn ms2 ≡ Some t
    last_drawn_2 = last_same drawn_team ms1 (Placed t k) refl ∙ last_drawn_1

    pub no_group_2 : without_group ms2 ≡ None
    no_group_2 = ap (option_and_then (λ s. where_true (is_none (group_in ms2 s)) s)) last_drawn_2 ∙ ap (λ o. where_true (is_none o) t) group_k

    last_placed_2 : last_placed ms2 ≡ Some t
    last_placed_2 = last_here placed_team ms1 (Placed t k) t refl

    position_2 : position_in ms2 t ≡ None
    position_2 = last_same (position_by t) ms1 (Placed t k) refl ∙ last_same (position_by t) ms (Drawn t) refl ∙ new_t.2

    is_of : (p : ℕ) → is_of_pot file p t ≡ (pot == p)
    is_of p = ap (λ o. option_eq nat_eq o (Some p)) (of_pot file table.places legal pot k t is)

    -- who has no position after these two
    without_position_2 : (b : Bool) → (pot == 1) ≡ b → without_position file ms2 ≡ where_true (not b) t
    without_position_2 b e =
        ap (option_and_then (λ s. where_true (has_position_ball file s && is_none (position_in ms2 s)) s)) last_placed_2
        ∙ ap (λ o. where_true (has_position_ball file t && is_none o) t) position_2
        ∙ ap (λ x. where_true (not x && true) t) (is_of 1 ∙ e)
        ∙ plain b
      where
        plain : (x : Bool) → where_true (not x && true) t ≡ where_true (not x) t
        plain true = refl
        plain false = refl

    -- ---- what the two moves say

    drawn_t2 : is_drawn t ms2 ≡ true
    drawn_t2 = any_kept (draws t) ms1 (Placed t k) (any_here (draws t) ms (Drawn t) t_self)

    drawn_s2 : (s : TeamId) → (t.0 == s.0) ≡ false → is_drawn s ms2 ≡ is_drawn s ms
    drawn_s2 s o = any_same (draws s) ms1 (Placed t k) refl ∙ any_same (draws s) ms (Drawn t) o

    group_s2 : (s : TeamId) → (t.0 == s.0) ≡ false → group_in ms2 s ≡ group_in ms s
    group_s2 s o = last_same (group_by s) ms1 (Placed t k) (ap (λ b. if b then Some k else None) o) ∙ last_same (group_by s) ms (Drawn t) refl

    position_s2 : (s : TeamId) → position_in ms2 s ≡ position_in ms s
    position_s2 s = last_same (position_by s) ms1 (Placed t k) refl ∙ last_same (position_by s) ms (Drawn t) refl

    placed_2 : has_placed file ms2 pot k ≡ true
    placed_2 = any_here (places_in file pot k) ms1 (Placed t k) (ap (λ b. b && is_of_pot file pot t) (eq-eqb k k refl) ∙ is_of pot ∙ eq-eqb pot pot refl)

    kept_2 : (p g : ℕ) → has_placed file ms p g ≡ true → has_placed file ms2 p g ≡ true
    kept_2 p g h = any_kept (places_in file p g) ms1 (Placed t k) (any_kept (places_in file p g) ms (Drawn t) h)

    free_2 : (p g : ℕ) → ((p ≡ pot) × (g ≡ k) → ⊥) → has_placed file ms p g ≡ false → has_placed file ms2 p g ≡ false
    free_2 p g n h = any_same (places_in file p g) ms1 (Placed t k) (off (cases_Bool (k == g))) ∙ any_same (places_in file p g) ms (Drawn t) refl ∙ h
      where
        off : ((k == g) ≡ true) ⊎ ((k == g) ≡ false) → (k == g && is_of_pot file p t) ≡ false
        off (inl e) = ap (λ b. b && is_of_pot file p t) e ∙ is_of p ∙ ne_eqb pot p (λ q. n (sym q, sym (eqb-true k g e)))
        off (inr e) = ap (λ b. b && is_of_pot file p t) e

    -- a team of pot 1 is drawn whole by two moves
    pub first_adds : pot ≡ 1 → DrawsWhole pot k t ms ms2
    first_adds e = record {
      drawn_t = drawn_t2;
      group_t = group_k;
      position_t = λ n. absurd (n e);
      drawn_s = drawn_s2;
      group_s = group_s2;
      position_s = λ s o. position_s2 s;
      placed_here = placed_2;
      placed_kept = kept_2;
      free_kept = free_2;
      no_group = no_group_2;
      no_position = without_position_2 true (eq-eqb pot 1 e);
      extends = extends_2;
    }

    -- a team of a later pot by three
    module _ (n : pot ≢ 1) (p : ℕ) (stands : position_of table.places t ≡ Some p) where
      abbrev pub ms3 : List Move
      ms3 = ms2 ++ Positioned t p ∷ []

      -- placed, it waits for its position
      pub waits_for_its_position : without_position file ms2 ≡ Some t
      waits_for_its_position = without_position_2 false (ne_eqb pot 1 n)

      pub extends_3 : Extends file (Group table) ms3
      extends_3 = extends_more file (Group table) ms2 (Positioned t p) extends_2 stands

      group_3 : group_in ms3 t ≡ Some k
      group_3 = last_same (group_by t) ms2 (Positioned t p) refl ∙ group_k

      position_3 : position_in ms3 t ≡ Some p
      position_3 = last_here (position_by t) ms2 (Positioned t p) p (ap (λ b. if b then Some p else None) t_self)

      pub no_group_3 : without_group ms3 ≡ None
      no_group_3 =
          ap (option_and_then (λ s. where_true (is_none (group_in ms3 s)) s)) (last_same drawn_team ms2 (Positioned t p) refl ∙ last_drawn_2)
          ∙ ap (λ o. where_true (is_none o) t) group_3

      no_position_3 : without_position file ms3 ≡ None
      no_position_3 =
          ap (option_and_then (λ s. where_true (has_position_ball file s && is_none (position_in ms3 s)) s)) (last_same placed_team ms2 (Positioned t p) refl ∙ last_placed_2)
          ∙ ap (λ o. where_true (has_position_ball file t && is_none o) t) position_3
          ∙ none (has_position_ball file t)
        where
          none : (b : Bool) → where_true (b && false) t ≡ None
          none true = refl
          none false = refl

      pub later_adds : DrawsWhole pot k t ms ms3
      later_adds = record {
        drawn_t = any_kept (draws t) ms2 (Positioned t p) drawn_t2;
        group_t = group_3;
        position_t = λ m. position_3 ∙ sym stands;
        drawn_s = λ s o. any_same (draws s) ms2 (Positioned t p) refl ∙ drawn_s2 s o;
        group_s = λ s o. last_same (group_by s) ms2 (Positioned t p) refl ∙ group_s2 s o;
        position_s = λ s o. last_same (position_by s) ms2 (Positioned t p) (ap (λ b. if b then Some p else None) o) ∙ position_s2 s;
        placed_here = any_kept (places_in file pot k) ms2 (Positioned t p) placed_2;
        placed_kept = λ q g h. any_kept (places_in file q g) ms2 (Positioned t p) (kept_2 q g h);
        free_kept = λ q g m h. any_same (places_in file q g) ms2 (Positioned t p) refl ∙ free_2 q g m h;
        no_group = no_group_3;
        no_position = no_position_3;
        extends = extends_3;
      }
