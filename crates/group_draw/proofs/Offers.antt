-- Each state of a group draw has an offer: it is decided whether its positions are clean, and where
-- they are, whether its rules and literals can be satisfied.
use Rattle.std.proofs.Common.{ℕ, List, [], ◌∷◌, ◌++◌, ◌≡◌, inl, inr, Some, sym, ap, ◌∙◌, subst, append-nil}
use Rattle.std.proofs.lemmas.Option.{same_Some}
use Rattle.team_files.specs.declared.kind.Kind.{Kind}
use Rattle.team_files.specs.declared.team_id.TeamId.{TeamId}
use Rattle.rule_sets.specs.Files.{DrawFile}
use Rattle.rule_sets.specs.Forms.{HasForm}
use Rattle.count_core.specs.Decisions.{Decided, IsSatisfiable}
use Rattle.count_core.specs.Assignments.{SatisfiesQuestion}
use Rattle.count_core.proofs.Decisions.{satisfiability_decides}
use Rattle.draw_tables.specs.declared.moves.Move.{Move}
use Rattle.draw_tables.specs.declared.moves.Move.TheVariants.{Positioned}
use Rattle.draw_tables.specs.declared.moves.Choice.{Choice}
use Rattle.draw_tables.specs.declared.moves.Choice.TheVariants as choice
use Rattle.draw_tables.specs.declared.moves.Phase.TheVariants as phase
use Rattle.draw_tables.specs.Lists.{IsAmong}
use Rattle.draw_tables.specs.Moves.{group_in}
use Rattle.draw_tables.specs.Positions.{HasCleanPositions, HeldIsImpossible, IsHeld, StaysClean}
use Rattle.draw_tables.specs.States.{IsMoveOf, IsState, candidates, move_in, phase_of}
use Rattle.draw_tables.specs.Offers.{IsCompletable, IsOffer, IsPossible}
use Rattle.draw_tables.proofs.StateMoves.{state_and_move}
use Rattle.draw_tables.proofs.OfferLaws.{offer_where_decided}
use Rattle.group_draw.specs.Encoding.{rules_of, lits_of_moves}
use Rattle.group_draw.proofs.CleanMoves.{completable_is_clean, clean_decides}
use Rattle.group_draw.proofs.Existence.{completable_where_satisfied, values_complete}
use Rattle.group_draw.proofs.StateMoves.{lits_push}

module _ (file : DrawFile) (kind : file.kind ≡ Kind.Group) (form : HasForm file) where
  -- whether the moves can be completed
  completable_decides : (ms : List Move) → IsState file ms → Decided (IsCompletable file ms)
  completable_decides ms state = by_clean (clean_decides file ms)
    where
      by_rules : HasCleanPositions file ms → Decided (IsSatisfiable (rules_of file) (lits_of_moves file ms)) → Decided (IsCompletable file ms)
      by_rules clean (inl h) = inl ((completable_where_satisfied file kind form ms state clean).1 (h.0, record { rules = h.1; moves = h.2 }))
      by_rules clean (inr none) = inr (λ h. let met = (completable_where_satisfied file kind form ms state clean).0 h in none (met.0, met.1.rules, met.1.moves))

      by_clean : Decided (HasCleanPositions file ms) → Decided (IsCompletable file ms)
      by_clean (inl clean) = by_rules clean (satisfiability_decides (rules_of file) (lits_of_moves file ms))
      by_clean (inr held) = inr (λ h. held (completable_is_clean file ms kind h))

  -- a state has an offer
  pub offer_exists : (ms : List Move) → IsState file ms → (os : List Choice) × IsOffer file ms os
  offer_exists ms state = offer_where_decided file ms (λ m next. completable_decides (ms ++ m ∷ []) (state_and_move file ms m state next))

  -- a position that is a candidate is possible exactly where it is not held
  module _ (ms : List Move) (state : IsState file ms) (clean : HasCleanPositions file ms) (completable : IsCompletable file ms) (t : TeamId) (group position : ℕ)
      (in_phase : phase_of file ms ≡ phase.Position t) (stands : group_in ms t ≡ Some group) (among : IsAmong (candidates file ms) (choice.Position position)) where
    is_move : IsMoveOf file ms (choice.Position position) (Positioned t position)
    is_move = (among, ap (λ ph. move_in ph (choice.Position position)) in_phase)

    pub possible_not_held : HeldIsImpossible → IsPossible file ms (choice.Position position) → ¬ IsHeld file ms t group position
    possible_not_held impossible h held =
        let move : Positioned t position ≡ h.0 = same_Some (Positioned t position) h.0 (sym is_move.1 ∙ h.1.1) in
        impossible file ms t group position stands held (subst (λ m. IsCompletable file (ms ++ m ∷ [])) (sym move) h.2)

    pub free_is_possible : StaysClean → ¬ IsHeld file ms t group position → IsPossible file ms (choice.Position position)
    free_is_possible stays free =
        let met = (completable_where_satisfied file kind form ms state clean).0 completable in
        let longer = state_and_move file ms (Positioned t position) state (choice.Position position, is_move) in
        let lits : lits_of_moves file (ms ++ Positioned t position ∷ []) ≡ lits_of_moves file ms = lits_push file ms (Positioned t position) ∙ append-nil (lits_of_moves file ms) in
        let moves = subst (SatisfiesQuestion met.0) (sym lits) met.1.moves in
        (Positioned t position, is_move, values_complete file kind form (ms ++ Positioned t position ∷ []) met.0 longer (stays file ms t group position clean stands free) (record { rules = met.1.rules; moves = moves }))
