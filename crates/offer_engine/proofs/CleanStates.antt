-- Which moves leave the positions of a state clean.
use Rattle.std.proofs.Common.{◌≡◌, ℕ, false, List, [], ◌∷◌, ◌++◌, ◌⊎◌, inl, inr, Some, None, refl, sym, ◌∙◌, subst}
use Rattle.std.specs.Prelude.{◌==◌}
use Rattle.std.proofs.lemmas.Bool.{ne_eqb}
use Rattle.team_files.specs.declared.kind.Kind.{Kind}
use Rattle.team_files.specs.declared.team_id.TeamId.{TeamId}
use Rattle.rule_sets.specs.Files.{DrawFile}
use Rattle.draw_tables.specs.declared.moves.Move.{Move}
use Rattle.draw_tables.specs.declared.moves.Move.TheVariants.{Placed, Positioned, Paired}
use Rattle.draw_tables.specs.declared.moves.Choice.{Choice}
use Rattle.draw_tables.specs.declared.moves.Choice.TheVariants as choice
use Rattle.draw_tables.specs.declared.moves.Phase.TheVariants as phase
use Rattle.draw_tables.specs.declared.table.Table.{Table}
use Rattle.draw_tables.specs.declared.table.Table.TheVariants.{Group, Pairs}
use Rattle.draw_tables.specs.Lists.{IsAmong}
use Rattle.draw_tables.specs.Moves.{group_by, group_in}
use Rattle.draw_tables.specs.Positions.{HasCleanPositions, IsHeld}
use Rattle.draw_tables.specs.Tables.{IsLegal}
use Rattle.draw_tables.specs.Offers.{Extends}
use Rattle.draw_tables.specs.States.{phase_of, move_in, IsState}
use Rattle.draw_tables.proofs.HeldPositions.{extends_at, last_same}
use Rattle.draw_tables.proofs.Lists.{each_among, none_among, same_item}
use Rattle.draw_tables.proofs.Numbers.{same_id}
use Rattle.group_draw.specs.Laws.{CompletableIsClean}
use Rattle.group_draw.proofs.StateMoves.{SaysOnce, state_says}
use Rattle.pairing_draw.proofs.StateMoves.{IsKnown, state_known}
use Rattle.offer_engine.specs.Laws.{CleanAtStart, CleanWhereCompletable}
use Rattle.offer_engine.specs.Questions.{MovesStayClean}
use Rattle.offer_engine.proofs.Phases.{Tells, phase_tells}
use Rattle.offer_engine.proofs.StateQuestions.{among_push}

-- ---- one move that gives no position

-- positions stay clean where the move gives none and leaves each team that has one in its group
module _ (file : DrawFile) (ms : List Move) (m : Move) (none : (t : TeamId) (position : ℕ) → ¬ m ≡ Positioned t position)
    (same : (t : TeamId) (position : ℕ) → IsAmong ms (Positioned t position) → group_in (ms ++ m ∷ []) t ≡ group_in ms t) where
  before : (t : TeamId) (position : ℕ) → IsAmong (ms ++ m ∷ []) (Positioned t position) → IsAmong ms (Positioned t position)
  before t position h = go (among_push (λ n. IsAmong ms n ⊎ (m ≡ n)) ms m (λ n among. inl among) (inr refl) (Positioned t position) h)
    where
      go : IsAmong ms (Positioned t position) ⊎ (m ≡ Positioned t position) → IsAmong ms (Positioned t position)
      go (inl among) = among
      go (inr e) = absurd (none t position e)

  held_before : (t : TeamId) (group position : ℕ) → IsHeld file (ms ++ m ∷ []) t group position → IsHeld file ms t group position
  held_before t group position (inr own) = inr own
  held_before t group position (inl (other, inr place)) = inl (other, inr place)
  held_before t group position (inl (other, inl taken)) =
      let move = before other position taken.move in
      inl (other, inl (record { differs = taken.differs; stands = sym (same other position move) ∙ taken.stands; move = move }))

  still_clean : HasCleanPositions file ms → HasCleanPositions file (ms ++ m ∷ [])
  still_clean clean t group position among stands held =
      let move = before t position among in
      clean t group position move (sym (same t position move) ∙ stands) (held_before t group position held)

paired_clean : (file : DrawFile) (ms : List Move) (r w : TeamId) → HasCleanPositions file ms → HasCleanPositions file (ms ++ Paired r w ∷ [])
paired_clean file ms r w = still_clean file ms (Paired r w) (λ t position e. cc) (λ t position h. last_same (group_by t) ms (Paired r w) refl)

-- a team that has no group has no position either
placed_clean : (file : DrawFile) (ms : List Move) (s : TeamId) (group : ℕ) → SaysOnce file ms → group_in ms s ≡ None → HasCleanPositions file ms → HasCleanPositions file (ms ++ Placed s group ∷ [])
placed_clean file ms s group says none = still_clean file ms (Placed s group) (λ t position e. cc) same
  where
    differs : (t : TeamId) (own : ℕ) → group_in ms t ≡ Some own → s.0 ≡ t.0 → ⊥
    differs t own has e = let of_t : group_in ms t ≡ None = subst (λ r. group_in ms r ≡ None) (same_id s t e) none in cc

    same : (t : TeamId) (position : ℕ) → IsAmong ms (Positioned t position) → group_in (ms ++ Placed s group ∷ []) t ≡ group_in ms t
    same t position h =
        let positioned = says.positioned t position h in
        let placed = says.placed t positioned.group positioned.placed in
        let other : (s.0 == t.0) ≡ false = ne_eqb s.0 t.0 (λ e. differs t positioned.group placed.2 e) in
        last_same (group_by t) ms (Placed s group) (rw other refl)

-- ---- states

module _ (file : DrawFile) (ms : List Move) (state : IsState file ms) where
  -- where an opponent is drawn
  pub opponents_stay_clean : (r : TeamId) → phase_of file ms ≡ phase.Opponent r → HasCleanPositions file ms → MovesStayClean file ms
  opponents_stay_clean r is clean m next = by_choice next.0 (subst (λ p. move_in p next.0 ≡ Some m) is next.1.1)
    where
      by_choice : (c : Choice) → move_in (phase.Opponent r) c ≡ Some m → HasCleanPositions file (ms ++ m ∷ [])
      by_choice (choice.Team w) e = subst (λ n. HasCleanPositions file (ms ++ n ∷ [])) (same_item (Paired r w) m e) (paired_clean file ms r w clean)
      by_choice (choice.Group group) e = cc
      by_choice (choice.Position position) e = cc

  -- where a team takes its group
  pub groups_stay_clean : (t : TeamId) → phase_of file ms ≡ phase.Group t → HasCleanPositions file ms → MovesStayClean file ms
  groups_stay_clean t is clean m next = by_choice next.0 (subst (λ p. move_in p next.0 ≡ Some m) is next.1.1)
    where
      told : Tells file ms (phase.Group t)
      told = subst (Tells file ms) is (phase_tells file ms)

      by_choice : (c : Choice) → move_in (phase.Group t) c ≡ Some m → HasCleanPositions file (ms ++ m ∷ [])
      by_choice (choice.Group group) e =
          let says = state_says file told.0 ms state in
          subst (λ n. HasCleanPositions file (ms ++ n ∷ [])) (same_item (Placed t group) m e) (placed_clean file ms t group says told.1 clean)
      by_choice (choice.Team w) e = cc
      by_choice (choice.Position position) e = cc

  -- a pairing has no positions
  pub pairing_clean : file.kind ≡ Kind.Pairing → HasCleanPositions file ms
  pairing_clean kind t group position among stands held = each_among (IsKnown file) ms (state_known file kind ms state) (Positioned t position) among

-- ---- the laws

pub clean_where_completable : CompletableIsClean → CleanWhereCompletable
clean_where_completable law file ms h = by_table h.0 h.1 h.2
  where
    by_table : (table : Table) → IsLegal file table → Extends file table ms → HasCleanPositions file ms
    by_table (Group groups) legal extends = law file ms legal.0 (Group groups, legal, extends)
    by_table (Pairs pairs) legal extends = λ t group position among stands held. extends_at file (Pairs pairs) ms (Positioned t position) extends among

pub clean_at_start : CleanAtStart
clean_at_start file t group position among stands held = none_among (Positioned t position) among
