-- Hints checked one by one: what one of them says, and what acceptance is as a whole.
use Rattle.std.proofs.Common.{◌≡◌, ℕ, suc, ◌+◌, ◌<◌, Bool, true, false, cond, List, [], ◌∷◌, length, get_or, drop, drop-cons, add-one, Option, Some, None, refl, sym, ap}
use Rattle.count_core.specs.declared.count_rule.CountRule.{CountRule}
use Rattle.count_core.specs.declared.hint.Hint.{Hint}
use Rattle.count_core.specs.PartialAssignments.{PartialAssignment, conflicts, forces, assign_all, forced_assignment, ForcesAll}
use Rattle.count_core.specs.Steps.{rule_at, is_last, apply_hint, failing_from, assumed_negation, is_clause, LeadToConflict, IsAccepted}
use Rattle.count_core.specs.Laws.{AcceptedByConflict}

-- ---- one turn of a loop over the hints, at the place i

module _ (find : Hint → Option CountRule) (p : PartialAssignment) (hints : List Hint) (i : ℕ) (d : Hint) (within : i < length hints) (r : CountRule) (found : find (get_or hints i d) ≡ Some r) where
  turn : failing_from find p (drop i hints) i ≡ apply_hint p (Some r) (is_last (drop (suc i) hints)) i (λ q. failing_from find q (drop (suc i) hints) (i + 1))
  turn = rw (drop-cons hints i d) (ap (λ o. apply_hint p o (is_last (drop (suc i) hints)) i (λ q. failing_from find q (drop (suc i) hints) (i + 1))) found)

  goes_on : conflicts p r.lits r.lo r.hi ≡ false → forces p r.lits r.lo r.hi ≡ true → failing_from find p (drop i hints) i ≡ failing_from find (forced_assignment p r.lits r.lo r.hi) (drop (i + 1) hints) (i + 1)
  goes_on c f = rw (turn, c, f, add-one)

  -- its rule forces: the next hint is applied to what is set then
  pub hint_goes_on : (truth : Bool) (q : PartialAssignment) → ForcesAll p r.lits r.lo r.hi truth → q ≡ assign_all truth r.lits p → failing_from find q (drop (i + 1) hints) (i + 1) ≡ failing_from find p (drop i hints) i
  hint_goes_on truth q forces set = rw (set, ← forces.makes) (sym (goes_on forces.calm forces.active))

-- ---- acceptance as a whole

module _ (find : Hint → Option CountRule) where
  -- hints that lead to a conflict do not fail
  pub leads_none : (hs : List Hint) (p : PartialAssignment) (i : ℕ) → LeadToConflict find p hs → failing_from find p hs i ≡ None
  leads_none [] p i h = absurd h
  leads_none (x ∷ []) p i (r, found, c) = rw (found, c)
  leads_none (x ∷ y ∷ hs) p i (r, found, c, f, rest) = rw (found, c, f) (leads_none (y ∷ hs) (forced_assignment p r.lits r.lo r.hi) (i + 1) rest)

  -- and the other way
  pub none_leads : (hs : List Hint) (p : PartialAssignment) (i : ℕ) → failing_from find p hs i ≡ None → LeadToConflict find p hs
  none_leads [] p i e = cc
  none_leads (x ∷ []) p i e = go (find x) refl e
    where
      by_case : (r : CountRule) → find x ≡ Some r → (c f : Bool) → conflicts p r.lits r.lo r.hi ≡ c → cond c None (cond f (Some (i + 1)) (Some i)) ≡ None → LeadToConflict find p (x ∷ [])
      by_case r found true f c e = (r, found, c)
      by_case r found false true c e = cc
      by_case r found false false c e = cc

      go : (o : Option CountRule) → find x ≡ o → apply_hint p o true i (λ q. Some (i + 1)) ≡ None → LeadToConflict find p (x ∷ [])
      go None found e = cc
      go (Some r) found e = by_case r found (conflicts p r.lits r.lo r.hi) (forces p r.lits r.lo r.hi) refl e
  none_leads (x ∷ y ∷ hs) p i e = go (find x) refl (λ q f. none_leads (y ∷ hs) q (i + 1) f) e
    where
      by_case : (r : CountRule) → find x ≡ Some r → ((q : PartialAssignment) → failing_from find q (y ∷ hs) (i + 1) ≡ None → LeadToConflict find q (y ∷ hs)) → (c f : Bool) → conflicts p r.lits r.lo r.hi ≡ c → forces p r.lits r.lo r.hi ≡ f → cond c (Some i) (cond f (failing_from find (forced_assignment p r.lits r.lo r.hi) (y ∷ hs) (i + 1)) (Some i)) ≡ None → LeadToConflict find p (x ∷ y ∷ hs)
      by_case r found rest true f c g e = cc
      by_case r found rest false true c g e = (r, found, c, g, rest (forced_assignment p r.lits r.lo r.hi) e)
      by_case r found rest false false c g e = cc

      go : (o : Option CountRule) → find x ≡ o → ((q : PartialAssignment) → failing_from find q (y ∷ hs) (i + 1) ≡ None → LeadToConflict find q (y ∷ hs)) → apply_hint p o false i (λ q. failing_from find q (y ∷ hs) (i + 1)) ≡ None → LeadToConflict find p (x ∷ y ∷ hs)
      go None found rest e = cc
      go (Some r) found rest e = by_case r found rest (conflicts p r.lits r.lo r.hi) (forces p r.lits r.lo r.hi) refl refl e

-- acceptance in the words of LRAT
pub accepted_by_conflict : AcceptedByConflict
accepted_by_conflict problem earlier s = (there, back)
  where
    find : Hint → Option CountRule
    find h = rule_at problem earlier h

    by_clause : (c : Bool) → is_clause problem s.clause ≡ c → cond c (failing_from (rule_at problem earlier) (assumed_negation problem.atoms s.clause) s.hints 0) (Some 0) ≡ None → (is_clause problem s.clause ≡ true) × LeadToConflict (rule_at problem earlier) (assumed_negation problem.atoms s.clause) s.hints
    by_clause true is e = (is, none_leads (rule_at problem earlier) s.hints (assumed_negation problem.atoms s.clause) 0 e)
    by_clause false is e = cc

    there : IsAccepted problem earlier s → (is_clause problem s.clause ≡ true) × LeadToConflict (rule_at problem earlier) (assumed_negation problem.atoms s.clause) s.hints
    there e = by_clause (is_clause problem s.clause) refl e

    back : (is_clause problem s.clause ≡ true) × LeadToConflict (rule_at problem earlier) (assumed_negation problem.atoms s.clause) s.hints → IsAccepted problem earlier s
    back (is, leads) = rw is (leads_none (rule_at problem earlier) s.hints (assumed_negation problem.atoms s.clause) 0 leads)
