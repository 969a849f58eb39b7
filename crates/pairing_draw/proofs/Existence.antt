-- Each state of a pairing has an offer: it is decided whether the rules of the file and the literals
-- of moves can be satisfied, and so whether the moves can be completed.
use Rattle.std.proofs.Common.{List, [], ◌∷◌, ◌++◌, ◌≡◌, inl, inr}
use Rattle.team_files.specs.declared.kind.Kind.{Kind}
use Rattle.rule_sets.specs.Files.{DrawFile}
use Rattle.count_core.specs.Decisions.{Decided, IsSatisfiable}
use Rattle.count_core.proofs.Decisions.{satisfiability_decides}
use Rattle.draw_tables.specs.declared.moves.Move.{Move}
use Rattle.draw_tables.specs.States.{IsState}
use Rattle.draw_tables.specs.Offers.{IsCompletable}
use Rattle.draw_tables.proofs.StateMoves.{state_and_move}
use Rattle.draw_tables.proofs.OfferLaws.{offer_where_decided}
use Rattle.pairing_draw.specs.Encoding.{rules_of, values_of, lits_of_moves}
use Rattle.pairing_draw.specs.Correspondence.{CompletableWhereSatisfied}
use Rattle.pairing_draw.specs.Laws.{OfferExists}
use Rattle.pairing_draw.proofs.ReadTables.{values_complete}
use Rattle.pairing_draw.proofs.TableValues.{tables_satisfy}

-- moves can be completed exactly where the rules and their literals can be satisfied
pub completable_where_satisfied : CompletableWhereSatisfied
completable_where_satisfied file ms kind state = (
  λ h. (values_of file h.0, tables_satisfy file ms h.0 kind h.1 h.2),
  λ h. values_complete file ms h.0 kind state h.1,
)

-- whether the moves can be completed
pub completable_decides : (file : DrawFile) (ms : List Move) → file.kind ≡ Kind.Pairing → IsState file ms → Decided (IsCompletable file ms)
completable_decides file ms kind state = from (satisfiability_decides (rules_of file) (lits_of_moves file ms))
  where
    from : Decided (IsSatisfiable (rules_of file) (lits_of_moves file ms)) → Decided (IsCompletable file ms)
    from (inl h) = inl ((completable_where_satisfied file ms kind state).1 (h.0, record { rules = h.1; moves = h.2 }))
    from (inr none) = inr (λ h. let met = (completable_where_satisfied file ms kind state).0 h in none (met.0, met.1.rules, met.1.moves))

-- a state of a pairing has an offer
pub offer_exists : OfferExists
offer_exists file ms kind state = offer_where_decided file ms (λ m next. completable_decides file (ms ++ m ∷ []) kind (state_and_move file ms m state next))
