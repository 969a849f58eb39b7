-- Moves that can be completed have clean positions, and it is decided whether positions are clean.
use Rattle.std.proofs.Common.{◌≡◌, ◌≢◌, ℕ, zero, suc, ◌⊎◌, inl, inr, List, [], ◌∷◌, Option, Some, None, slice_get, refl, sym, ap, ◌∙◌, subst}
use Rattle.std.proofs.lemmas.Bool.{cases_eq}
use Rattle.std.proofs.lemmas.Option.{same_Some}
use Rattle.team_files.specs.declared.team_id.TeamId.{TeamId}
use Rattle.rule_sets.specs.declared.place.Place.{Place}
use Rattle.rule_sets.specs.Files.{DrawFile}
use Rattle.count_core.specs.Decisions.{Decided}
use Rattle.draw_tables.specs.declared.group_table.GroupTable.{GroupTable}
use Rattle.draw_tables.specs.declared.moves.Move.{Move}
use Rattle.draw_tables.specs.declared.moves.Move.TheVariants.{Drawn, Placed, Positioned, Paired}
use Rattle.draw_tables.specs.declared.table.Table.{Table}
use Rattle.draw_tables.specs.declared.table.Table.TheVariants.{Group, Pairs}
use Rattle.draw_tables.specs.Lists.{IsAmong}
use Rattle.draw_tables.specs.Moves.{group_in}
use Rattle.draw_tables.specs.GroupTables.{group_of, position_of, IsLegalGroups}
use Rattle.draw_tables.specs.Positions.{HasCleanPositions, IsHeld}
use Rattle.draw_tables.specs.Tables.{IsLegal}
use Rattle.draw_tables.specs.Offers.{Extends}
use Rattle.draw_tables.proofs.HeldPositions.{extends_at, extends_group, one_team_at}
use Rattle.draw_tables.proofs.Numbers.{same_id}
use Rattle.group_draw.specs.Laws.{CompletableIsClean}

-- ---- moves that a legal table extends

module _ (file : DrawFile) (groups : GroupTable) (legal : IsLegalGroups file groups.places) (ms : List Move) (extends : Extends file (Group groups) ms) where
  group_is : (t : TeamId) (g : ℕ) → group_in ms t ≡ Some g → group_of groups.places t ≡ Some g
  group_is t g e = extends_group file groups ms t g extends e

  position_is : (t : TeamId) (p : ℕ) → IsAmong ms (Positioned t p) → position_of groups.places t ≡ Some p
  position_is t p m = extends_at file (Group groups) ms (Positioned t p) extends m

  none_held : HasCleanPositions file ms
  none_held t g p m in_g (inl (other, inl taken)) =
      taken.differs (one_team_at file groups.places legal other t g p (group_is other g taken.stands) (position_is other p taken.move) (group_is t g in_g) (position_is t p m))
  none_held t g p m in_g (inl (other, inr taken)) =
      let in_group = legal.fixed_group (record { team = other; group = g; position = p }) taken.fixed in
      let at_position = legal.fixed_position (record { team = other; group = g; position = p }) taken.fixed in
      taken.differs (one_team_at file groups.places legal other t g p in_group at_position (group_is t g in_g) (position_is t p m))
  none_held t g p m in_g (inr own) =
      let fixed = legal.fixed_position own.place own.fixed in
      own.other (same_Some own.place.position p (sym fixed ∙ ap (position_of groups.places) own.own ∙ position_is t p m))

pub completable_is_clean : CompletableIsClean
completable_is_clean file ms kind h = by_table h.0 h.1 h.2
  where
    by_table : (table : Table) → IsLegal file table → Extends file table ms → HasCleanPositions file ms
    by_table (Group groups) legal extends = none_held file groups legal.1 ms extends
    by_table (Pairs pairs) legal extends = let other = sym kind ∙ legal.0 in cc

-- ---- whether positions are clean

both : {A B : Type 0} → Decided A → Decided B → Decided (A × B)
both (inl a) (inl b) = inl (a, b)
both (inl a) (inr n) = inr (λ h. n h.1)
both (inr n) b = inr (λ h. n h.0)

either : {A B : Type 0} → Decided A → Decided B → Decided (A ⊎ B)
either (inl a) b = inl (inl a)
either (inr n) (inl b) = inl (inr b)
either {A = A} {B = B} (inr n) (inr m) = inr none
  where
    none : A ⊎ B → ⊥
    none (inl a) = n a
    none (inr b) = m b

-- some item has the property or none has
some_among : {A : Type 0} (P : A → Type 0) → ((x : A) → Decided (P x)) → (xs : List A) → Decided ((x : A) × IsAmong xs x × P x)
some_among P test [] = inr (λ h. let e = h.1.1 in cc)
some_among {A} P test (y ∷ xs) = go (test y) (some_among P test xs)
  where
    neither : ¬ P y → ¬ ((x : A) × IsAmong xs x × P x) → (x : A) (k : ℕ) → slice_get (y ∷ xs) k ≡ Some x → P x → ⊥
    neither n m x zero e p = n (subst P (sym (same_Some y x e)) p)
    neither n m x (suc k) e p = m (x, (k, e), p)

    go : Decided (P y) → Decided ((x : A) × IsAmong xs x × P x) → Decided ((x : A) × IsAmong (y ∷ xs) x × P x)
    go (inl p) rest = inl (y, (0, refl), p)
    go (inr n) (inl r) = inl (r.0, (suc r.1.0, r.1.1), r.2)
    go (inr n) (inr m) = inr (λ h. neither n m h.0 h.1.0 h.1.1 h.2)

same_option : (o : Option ℕ) (n : ℕ) → Decided (o ≡ Some n)
same_option None n = inr (λ e. cc)
same_option (Some m) n = go (cases_eq m n)
  where
    go : (m ≡ n) ⊎ (m ≡ n → ⊥) → Decided (◌≡◌ {A = Option ℕ} (Some m) (Some n))
    go (inl e) = inl (ap Some e)
    go (inr n) = inr (λ e. n (same_Some m _ e))

differs : (m n : ℕ) → Decided (m ≢ n)
differs m n = go (cases_eq m n)
  where
    go : (m ≡ n) ⊎ (m ≡ n → ⊥) → Decided (m ≢ n)
    go (inl e) = inr (λ h. h e)
    go (inr h) = inl h

module _ (file : DrawFile) (ms : List Move) where
  module _ (t : TeamId) (g p : ℕ) where
    abbrev TakesBy : Move → Type 0
    TakesBy (Drawn s) = ⊥
    TakesBy (Placed s k) = ⊥
    TakesBy (Paired r w) = ⊥
    TakesBy (Positioned s q) = (s.0 ≢ t.0) × ((group_in ms s ≡ Some g) × (q ≡ p))

    takes_by : (m : Move) → Decided (TakesBy m)
    takes_by (Drawn s) = inr (λ h. h)
    takes_by (Placed s k) = inr (λ h. h)
    takes_by (Paired r w) = inr (λ h. h)
    takes_by (Positioned s q) = both (differs s.0 t.0) (both (same_option (group_in ms s) g) (cases_eq q p))

    abbrev FixesIt : Place → Type 0
    FixesIt place = (place.team.0 ≢ t.0) × ((place.group ≡ g) × (place.position ≡ p))

    abbrev FixesOther : Place → Type 0
    FixesOther place = (place.team.0 ≡ t.0) × (place.position ≢ p)

    held : Decided (IsHeld file ms t g p)
    held = go (some_among TakesBy takes_by ms)
        (some_among FixesIt (λ place. both (differs place.team.0 t.0) (both (cases_eq place.group g) (cases_eq place.position p))) file.places)
        (some_among FixesOther (λ place. both (cases_eq place.team.0 t.0) (differs place.position p)) file.places)
      where
        by_move : (m : Move) → IsAmong ms m → TakesBy m → IsHeld file ms t g p
        by_move (Drawn s) a h = absurd h
        by_move (Placed s k) a h = absurd h
        by_move (Paired r w) a h = absurd h
        by_move (Positioned s q) a h = inl (s, inl (record { differs = h.0; stands = h.1.0; move = subst (λ j. IsAmong ms (Positioned s j)) h.1.1 a }))

        by_place : (place : Place) → IsAmong file.places place → FixesIt place → IsHeld file ms t g p
        by_place place a h =
            let group = h.1.0 in
            let position = h.1.1 in
            let here : ◌≡◌ {A = Place} place (record { team = place.team; group = g; position = p }) = rw (← group, ← position) refl in
            inl (place.team, inr (record { differs = h.0; fixed = subst (IsAmong file.places) here a }))

        by_own : (place : Place) → IsAmong file.places place → FixesOther place → IsHeld file ms t g p
        by_own place a h = inr (record { place = place; fixed = a; own = same_id place.team t h.0; other = h.1 })

        none : ¬ ((m : Move) × IsAmong ms m × TakesBy m) → ¬ ((x : Place) × IsAmong file.places x × FixesIt x) → ¬ ((x : Place) × IsAmong file.places x × FixesOther x) → IsHeld file ms t g p → ⊥
        none a b c (inl (other, inl taken)) = a (Positioned other p, taken.move, (taken.differs, (taken.stands, refl)))
        none a b c (inl (other, inr taken)) = b (record { team = other; group = g; position = p }, taken.fixed, (taken.differs, (refl, refl)))
        none a b c (inr own) = c (own.place, own.fixed, (ap (λ (x : TeamId). x.0) own.own, own.other))

        go : Decided ((m : Move) × IsAmong ms m × TakesBy m) → Decided ((x : Place) × IsAmong file.places x × FixesIt x) → Decided ((x : Place) × IsAmong file.places x × FixesOther x) → Decided (IsHeld file ms t g p)
        go (inl a) b c = inl (by_move a.0 a.1 a.2)
        go (inr n) (inl b) c = inl (by_place b.0 b.1 b.2)
        go (inr n) (inr m) (inl c) = inl (by_own c.0 c.1 c.2)
        go (inr n) (inr m) (inr k) = inr (none n m k)

  -- the move gives a position that is held
  abbrev GivesHeld : Move → Type 0
  GivesHeld (Drawn t) = ⊥
  GivesHeld (Placed t k) = ⊥
  GivesHeld (Paired r w) = ⊥
  GivesHeld (Positioned t p) = (g : ℕ) × (group_in ms t ≡ Some g) × IsHeld file ms t g p

  gives_held : (m : Move) → Decided (GivesHeld m)
  gives_held (Drawn t) = inr (λ h. h)
  gives_held (Placed t k) = inr (λ h. h)
  gives_held (Paired r w) = inr (λ h. h)
  gives_held (Positioned t p) = by_group (group_in ms t) refl
    where
      go : (g : ℕ) → group_in ms t ≡ Some g → Decided (IsHeld file ms t g p) → Decided (GivesHeld (Positioned t p))
      go g is (inl h) = inl (g, is, h)
      go g is (inr n) = inr (λ h. let same : h.0 ≡ g = same_Some h.0 g (sym h.1 ∙ is) in n (subst (λ k. IsHeld file ms t k p) same h.2))

      by_group : (o : Option ℕ) → group_in ms t ≡ o → Decided (GivesHeld (Positioned t p))
      by_group None is = inr (λ h. let e = sym is ∙ h.1 in cc)
      by_group (Some g) is = go g is (held t g p)

  -- positions are clean or not
  pub clean_decides : Decided (HasCleanPositions file ms)
  clean_decides = go (some_among GivesHeld gives_held ms)
    where
      found : (m : Move) → IsAmong ms m → GivesHeld m → HasCleanPositions file ms → ⊥
      found (Drawn t) a h clean = h
      found (Placed t k) a h clean = h
      found (Paired r w) a h clean = h
      found (Positioned t p) a h clean = clean t h.0 p a h.1 h.2

      go : Decided ((m : Move) × IsAmong ms m × GivesHeld m) → Decided (HasCleanPositions file ms)
      go (inl h) = inr (found h.0 h.1 h.2)
      go (inr n) = inl (λ t g p a in_g h. n (Positioned t p, a, (g, in_g, h)))
