-- Which positions of a group are held: a position that is not leaves the positions clean, one that is can't be completed, and it has one holder.
use Rattle.std.proofs.Common.{◌≡◌, ◌≢◌, ℕ, zero, suc, ◌<◌, ◌⊎◌, inl, inr, true, false, List, [], ◌∷◌, ◌++◌, Option, Some, None, slice_get, refl, sym, ap, ◌∙◌, subst}
use Rattle.std.specs.Prelude.{◌==◌, if◌then◌else◌, option_map}
use Rattle.std.specs.Option.{option_or}
use Rattle.std.proofs.lemmas.Bool.{cases_Bool, eqb-true, eq-eqb, and_from, and_parts}
use Rattle.team_files.specs.declared.team_id.TeamId.{TeamId}
use Rattle.rule_sets.specs.Files.{DrawFile}
use Rattle.draw_tables.specs.declared.group_place.GroupPlace.{GroupPlace}
use Rattle.draw_tables.specs.declared.group_table.GroupTable.{GroupTable}
use Rattle.draw_tables.specs.declared.moves.Move.{Move}
use Rattle.draw_tables.specs.declared.moves.Move.TheVariants.{Drawn, Placed, Positioned, Paired}
use Rattle.draw_tables.specs.declared.table.Table.{Table}
use Rattle.draw_tables.specs.declared.table.Table.TheVariants.{Group, Pairs}
use Rattle.draw_tables.specs.Lists.{IsAmong}
use Rattle.draw_tables.specs.Pots.{IsPosition}
use Rattle.draw_tables.specs.GroupTables.{group_of, position_of, is_at, IsLegalGroups}
use Rattle.draw_tables.specs.Moves.{last_of, group_by, group_in}
use Rattle.draw_tables.specs.Offers.{AgreesWith, Extends}
use Rattle.draw_tables.specs.Positions.{IsTaken, IsHeld, StaysClean, HeldIsImpossible, OneHolder}
use Rattle.draw_tables.proofs.Lists.{same_item}
use Rattle.draw_tables.proofs.Numbers.{same_id}
use Rattle.draw_tables.proofs.GroupCounts.{only_counted}

-- ---- one more move

-- an item of a list with one more at its end is of the list, or that one
among_more : {A : Type 0} (xs : List A) (y x : A) → IsAmong (xs ++ y ∷ []) x → IsAmong xs x ⊎ (y ≡ x)
among_more {A = A} xs y x h = at xs h.0 h.1
  where
    at : (zs : List A) (k : ℕ) → slice_get (zs ++ y ∷ []) k ≡ Some x → IsAmong zs x ⊎ (y ≡ x)
    at [] zero e = inr (same_item y x e)
    at [] (suc k) e = cc
    at (z ∷ zs) zero e = inl (0, e)
    at (z ∷ zs) (suc k) e = up (at zs k e)
      where
        up : IsAmong zs x ⊎ (y ≡ x) → IsAmong (z ∷ zs) x ⊎ (y ≡ x)
        up (inl g) = inl (suc g.0, g.1)
        up (inr s) = inr s

-- a move that answers nothing leaves the last answer
pub last_same : {A : Type 0} (f : Move → Option A) (ms : List Move) (m : Move) → f m ≡ None → last_of f (ms ++ m ∷ []) ≡ last_of f ms
last_same f [] m e = ap (λ o. option_or None o) e
last_same f (n ∷ ms) m e = ap (λ o. option_or o (f n)) (last_same f ms m e)

-- a move that answers gives the last answer
pub last_here : {A : Type 0} (f : Move → Option A) (ms : List Move) (m : Move) (a : A) → f m ≡ Some a → last_of f (ms ++ m ∷ []) ≡ Some a
last_here f [] m a e = ap (λ o. option_or None o) e
last_here f (n ∷ ms) m a e = ap (λ o. option_or o (f n)) (last_here f ms m a e)

-- ---- tables that extend moves

module _ (file : DrawFile) (table : Table) where
  -- a table that extends the moves agrees with each of them
  pub extends_at : (ms : List Move) (m : Move) → Extends file table ms → IsAmong ms m → AgreesWith file table m
  extends_at ms m h among = at ms h among.0 among.1
    where
      at : (ns : List Move) → Extends file table ns → (k : ℕ) → slice_get ns k ≡ Some m → AgreesWith file table m
      at [] g k e = cc
      at (n ∷ ns) g zero e = subst (AgreesWith file table) (same_item n m e) g.0
      at (n ∷ ns) g (suc k) e = at ns g.1 k e

  -- a table that extends moves with one more extends the moves, and agrees with that one
  pub extends_front : (ms : List Move) (m : Move) → Extends file table (ms ++ m ∷ []) → Extends file table ms × AgreesWith file table m
  extends_front [] m h = (tt, h.0)
  extends_front (n ∷ ms) m h = let rest = extends_front ms m h.1 in ((h.0, rest.0), rest.1)

  -- and the other way round
  pub extends_more : (ms : List Move) (m : Move) → Extends file table ms → AgreesWith file table m → Extends file table (ms ++ m ∷ [])
  extends_more [] m h a = (a, tt)
  extends_more (n ∷ ms) m h a = (h.0, extends_more ms m h.1 a)

-- a table that extends the moves has each team in the group that they give it
pub extends_group : (file : DrawFile) (groups : GroupTable) (ms : List Move) (t : TeamId) (g : ℕ) → Extends file (Group groups) ms → group_in ms t ≡ Some g → group_of groups.places t ≡ Some g
extends_group file groups [] t g h e = cc
extends_group file groups (m ∷ ms) t g h e = go (group_in ms t) refl e (extends_group file groups ms t g h.1)
  where
    by_move : (n : Move) → AgreesWith file (Group groups) n → group_by t n ≡ Some g → group_of groups.places t ≡ Some g
    by_move (Drawn s) a f = cc
    by_move (Positioned s p) a f = cc
    by_move (Paired r w) a f = cc
    by_move (Placed s k) a f = by_test (cases_Bool (s.0 == t.0))
      where
        by_test : ((s.0 == t.0) ≡ true) ⊎ ((s.0 == t.0) ≡ false) → group_of groups.places t ≡ Some g
        by_test (inl q) = ap (group_of groups.places) (sym (same_id s t (eqb-true s.0 t.0 q))) ∙ a ∙ sym (ap (λ b. if b then Some k else None) q) ∙ f
        by_test (inr q) = let z = sym (ap (λ b. if b then Some k else None) q) ∙ f in cc

    go : (o : Option ℕ) → group_in ms t ≡ o → option_or o (group_by t m) ≡ Some g → (group_in ms t ≡ Some g → group_of groups.places t ≡ Some g) → group_of groups.places t ≡ Some g
    go (Some k) is f rest = rest (is ∙ f)
    go None is f rest = by_move m h.0 f

-- ---- one place, one team

module _ (file : DrawFile) (places : List GroupPlace) (legal : IsLegalGroups file places) where
  -- a team has a place, which is at its group and position
  at_place : (t : TeamId) (g p : ℕ) → group_of places t ≡ Some g → position_of places t ≡ Some p
      → (place : GroupPlace) × (slice_get places t.0 ≡ Some place) × (is_at g p place ≡ true)
  at_place t g p e f = go (slice_get places t.0) refl e f
    where
      go : (o : Option GroupPlace) → slice_get places t.0 ≡ o → option_map (λ x. x.group) o ≡ Some g → option_map (λ x. x.position) o ≡ Some p
          → (place : GroupPlace) × (slice_get places t.0 ≡ Some place) × (is_at g p place ≡ true)
      go None is h k = cc
      go (Some x) is h k = (x, is, and_from (x.group == g) (x.position == p) (eq-eqb x.group g (same_item x.group g h)) (eq-eqb x.position p (same_item x.position p k)))

  -- two teams with one position of one group are the same
  pub one_team_at : (t s : TeamId) (g p : ℕ) → group_of places t ≡ Some g → position_of places t ≡ Some p → group_of places s ≡ Some g → position_of places s ≡ Some p → t.0 ≡ s.0
  one_team_at t s g p e f h k =
      let one = at_place t g p e f in
      let other = at_place s g p h k in
      let of_file = legal.places one.0 (t.0, one.1) in
      let where_it_is = and_at one.0 one.2 in
      only_counted (is_at g p) places (legal.positions g p (subst (λ n. n < file.groups) where_it_is.0 of_file.0) (subst (IsPosition file) where_it_is.1 of_file.1)) t.0 s.0 one.0 other.0 one.1 one.2 other.1 other.2
    where
      and_at : (x : GroupPlace) → is_at g p x ≡ true → (x.group ≡ g) × (x.position ≡ p)
      and_at x q = let both = and_parts (x.group == g) (x.position == p) q in (eqb-true x.group g both.0, eqb-true x.position p both.1)

-- another team that has the position has it in each legal table that extends the moves
taken_there : (file : DrawFile) (ms : List Move) (t : TeamId) (g p : ℕ) (other : TeamId) (groups : GroupTable) → IsLegalGroups file groups.places → Extends file (Group groups) ms
    → IsTaken file ms t g p other → (group_of groups.places other ≡ Some g) × (position_of groups.places other ≡ Some p)
taken_there file ms t g p other groups legal extends (inl h) = (extends_group file groups ms other g extends h.stands, extends_at file (Group groups) ms (Positioned other p) extends h.move)
taken_there file ms t g p other groups legal extends (inr h) = (legal.fixed_group (record { team = other; group = g; position = p }) h.fixed, legal.fixed_position (record { team = other; group = g; position = p }) h.fixed)

differs_of : (file : DrawFile) (ms : List Move) (t : TeamId) (g p : ℕ) (other : TeamId) → IsTaken file ms t g p other → other.0 ≢ t.0
differs_of file ms t g p other (inl h) = h.differs
differs_of file ms t g p other (inr h) = h.differs

-- ---- the laws

pub stays_clean : StaysClean
stays_clean file ms t group position clean has free u g q among stands held = by_place (among_more ms (Positioned t position) (Positioned u q) among)
  where
    same_group : (s : TeamId) → group_in (ms ++ Positioned t position ∷ []) s ≡ group_in ms s
    same_group s = last_same (group_by s) ms (Positioned t position) refl

    same_team : (s v : TeamId) (a b : ℕ) → ◌≡◌ {A = Move} (Positioned s a) (Positioned v b) → s ≡ v
    same_team s v a b e = cc

    same_position : (s v : TeamId) (a b : ℕ) → ◌≡◌ {A = Move} (Positioned s a) (Positioned v b) → a ≡ b
    same_position s v a b e = cc

    -- what holds the position after the move held it before, or is the team of the move
    before : (s : TeamId) (k p : ℕ) → IsHeld file (ms ++ Positioned t position ∷ []) s k p → IsHeld file ms s k p ⊎ ((t.0 ≢ s.0) × (p ≡ position) × (group_in ms t ≡ Some k))
    before s k p (inr h) = inl (inr h)
    before s k p (inl (other, inr h)) = inl (inl (other, inr h))
    before s k p (inl (other, inl h)) = by_move (among_more ms (Positioned t position) (Positioned other p) h.move)
      where
        by_move : IsAmong ms (Positioned other p) ⊎ ◌≡◌ {A = Move} (Positioned t position) (Positioned other p) → IsHeld file ms s k p ⊎ ((t.0 ≢ s.0) × (p ≡ position) × (group_in ms t ≡ Some k))
        by_move (inl old) = inl (inl (other, inl (record { differs = h.differs; stands = sym (same_group other) ∙ h.stands; move = old })))
        by_move (inr e) =
            let team = same_team t other position p e in
            let n = h.differs in
            inr (λ z. n (ap (λ (x : TeamId). x.0) (sym team) ∙ z), sym (same_position t other position p e), ap (group_in ms) team ∙ sym (same_group other) ∙ h.stands)

    by_place : IsAmong ms (Positioned u q) ⊎ ◌≡◌ {A = Move} (Positioned t position) (Positioned u q) → ⊥
    by_place (inl old) = go (before u g q held)
      where
        go : IsHeld file ms u g q ⊎ ((t.0 ≢ u.0) × (q ≡ position) × (group_in ms t ≡ Some g)) → ⊥
        go (inl h) = clean u g q old (sym (same_group u) ∙ stands) h
        go (inr h) =
            let k = same_item group g (sym has ∙ h.2) in
            let n = h.0 in
            free (inl (
              u,
              inl (record {
                differs = λ z. n (sym z);
                stands = sym (same_group u) ∙ stands ∙ ap Some (sym k);
                move = subst (λ x. IsAmong ms (Positioned u x)) h.1 old;
              }),
            ))
    by_place (inr e) =
        let team = same_team t u position q e in
        let k = same_item group g (sym has ∙ ap (group_in ms) team ∙ sym (same_group u) ∙ stands) in
        go k team (before u g q held)
      where
        go : group ≡ g → t ≡ u → IsHeld file ms u g q ⊎ ((t.0 ≢ u.0) × (q ≡ position) × (group_in ms t ≡ Some g)) → ⊥
        go k team (inl h) = free (subst (λ x. IsHeld file ms t x position) (sym k) (subst (λ x. IsHeld file ms x g position) (sym team) (subst (λ x. IsHeld file ms u g x) (sym (same_position t u position q e)) h)))
        go k team (inr h) = h.0 (ap (λ (x : TeamId). x.0) team)

pub held_is_impossible : HeldIsImpossible
held_is_impossible file ms t group position has held (Pairs pairs, legal, extends) = (extends_front file (Pairs pairs) ms (Positioned t position) extends).1
held_is_impossible file ms t group position has held (Group groups, legal, extends) = by_case held
  where
    parts : Extends file (Group groups) ms × AgreesWith file (Group groups) (Positioned t position)
    parts = extends_front file (Group groups) ms (Positioned t position) extends

    by_case : IsHeld file ms t group position → ⊥
    by_case (inl (other, taken)) =
        let there = taken_there file ms t group position other groups legal.1 parts.0 taken in
        differs_of file ms t group position other taken (one_team_at file groups.places legal.1 other t group position there.0 there.1 (extends_group file groups ms t group parts.0 has) parts.1)
    by_case (inr h) =
        let own = h.own in
        let n = h.other in
        n (same_item h.place.position position (sym (legal.1.fixed_position h.place h.fixed) ∙ ap (position_of groups.places) own ∙ parts.1))

pub one_holder : OneHolder
one_holder file ms t a b group position kind (Pairs pairs, legal, extends) h g = let clash = sym kind ∙ legal.0 in cc
one_holder file ms t a b group position kind (Group groups, legal, extends) (inl h) (inl g) =
    let here = taken_there file ms t group position a groups legal.1 extends h in
    let there = taken_there file ms t group position b groups legal.1 extends g in
    same_id a b (one_team_at file groups.places legal.1 a b group position here.0 here.1 there.0 there.1)
one_holder file ms t a b group position kind (Group groups, legal, extends) (inl h) (inr g) = absurd (g.2 a h)
one_holder file ms t a b group position kind (Group groups, legal, extends) (inr h) (inl g) = absurd (h.2 b g)
one_holder file ms t a b group position kind (Group groups, legal, extends) (inr h) (inr g) = h.0 ∙ sym g.0
