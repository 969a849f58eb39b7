-- Why every clause of an accepted list follows.
use Rattle.std.proofs.Common.{◌≡◌, ℕ, ◌+◌, ◌-◌, Bool, true, false, not, cond, List, [], ◌∷◌, ◌++◌, length, refl, ap, ◌∙◌, Option, Some, None, slice_get, subst}
use Rattle.std.specs.Prelude.{option_map, replicate, Contains}
use Rattle.std.specs.List.{AllByRecursion as Each}
use Rattle.std.proofs.lemmas.List.Sums.{count_by-le-length}
use Rattle.std.proofs.lemmas.Option.{slice_get-get_or}
use Rattle.count_core.specs.declared.lit.Lit.{Lit}
use Rattle.count_core.specs.declared.count_rule.CountRule.{CountRule}
use Rattle.count_core.specs.declared.hint.Hint.{Hint}
use Rattle.count_core.specs.declared.hint.Hint.TheVariants.{Rule, Step as Earlier}
use Rattle.count_core.specs.declared.step.Step.{Step}
use Rattle.count_core.specs.Problems.{Problem}
use Rattle.count_core.specs.Assignments.{makes_true, under_sign, value_of, SatisfiesRule, Satisfies, SatisfiesQuestion, satisfies_clause, negation, Follows}
use Rattle.count_core.specs.PartialAssignments.{PartialAssignment, conflicts, forces, forced_assignment, Agrees}
use Rattle.count_core.specs.Steps.{clause_rule, rule_at, is_last, apply_hint, failing_from, assumed_negation, is_clause, failing_hint, AreAcceptedAfter, AreAccepted, NegatesOnly}
use Rattle.count_core.specs.Laws.{AcceptedClausesFollow, RefutedQuestionsFail}
use Rattle.count_core.proofs.Lists.{each_map, each_at, each_push, any_counts, none_pass}
use Rattle.count_core.proofs.Agreement.{no_conflict, forced_agrees, nothing_agrees, assign_all_agrees}

-- a clause that is true is a rule that is satisfied
pub clause_met : (v : List Bool) (c : List Lit) → satisfies_clause v c ≡ true → SatisfiesRule v (clause_rule c)
clause_met v c e = (any_counts (makes_true v) c e, count_by-le-length (makes_true v) c)

module _ (v : List Bool) (problem : Problem) (earlier : List Step) (met : Satisfies v problem) (held : Each (λ (s : Step). satisfies_clause v s.clause ≡ true) earlier) where
  -- each rule that a hint can name is satisfied
  pub named_met : (h : Hint) (r : CountRule) → rule_at problem earlier h ≡ Some r → SatisfiesRule v r
  named_met (Rule n) r e = each_at (SatisfiesRule v) problem.rules n r met e
  named_met (Earlier n) r e = go (slice_get earlier n) refl e
    where
      go : (o : Option Step) → slice_get earlier n ≡ o → option_map (λ (s : Step). clause_rule s.clause) o ≡ Some r → SatisfiesRule v r
      go None is e = cc
      go (Some s) is e = let same : clause_rule s.clause ≡ r = cc in subst (SatisfiesRule v) same (clause_met v s.clause (each_at _ earlier n s held is))

  hint_none : (p : PartialAssignment) → Agrees v p → (o : Option CountRule) → ((r : CountRule) → o ≡ Some r → SatisfiesRule v r) → (last : Bool) (i : ℕ) (go : PartialAssignment → Option ℕ) → ((q : PartialAssignment) → Agrees v q → go q ≡ None → ⊥) → apply_hint p o last i go ≡ None → ⊥
  hint_none p ag None m last i go rest e = cc
  hint_none p ag (Some r) m last i go rest e =
      by_case (conflicts p r.lits r.lo r.hi) (no_conflict v p ag r.lits r.lo r.hi (m r refl)) last (forces p r.lits r.lo r.hi) (rest (forced_assignment p r.lits r.lo r.hi) (forced_agrees v p ag r.lits r.lo r.hi (m r refl))) e
    where
      by_case : (c : Bool) → (c ≡ true → ⊥) → (last f : Bool) → (go (forced_assignment p r.lits r.lo r.hi) ≡ None → ⊥) → cond c (cond last None (Some i)) (cond f (go (forced_assignment p r.lits r.lo r.hi)) (Some i)) ≡ None → ⊥
      by_case true never last f rest e = never refl
      by_case false never last true rest e = rest e
      by_case false never last false rest e = cc

  -- hints never lead to a conflict from what holds in an assignment that satisfies the rules
  pub some_fails : (hs : List Hint) (p : PartialAssignment) (i : ℕ) → Agrees v p → failing_from (rule_at problem earlier) p hs i ≡ None → ⊥
  some_fails [] p i ag e = cc
  some_fails (h ∷ hs) p i ag e = hint_none p ag (rule_at problem earlier h) (named_met h) (is_last hs) i (λ q. failing_from (rule_at problem earlier) q hs (i + 1)) (λ q agq f. some_fails hs q (i + 1) agq f) e

  -- the clause of an accepted step is true
  pub clause_holds : (s : Step) → failing_hint problem earlier s ≡ None → satisfies_clause v s.clause ≡ true
  clause_holds s e = go (satisfies_clause v s.clause) refl (is_clause problem s.clause) e
    where
      go : (b : Bool) → satisfies_clause v s.clause ≡ b → (c : Bool) → cond c (failing_from (rule_at problem earlier) (assumed_negation problem.atoms s.clause) s.hints 0) (Some 0) ≡ None → b ≡ true
      go true is c e = refl
      go false is true e =
          let unmet = none_pass (makes_true v) s.clause is in
          let ag = assign_all_agrees v false s.clause (replicate problem.atoms None) (nothing_agrees v problem.atoms) (each_map _ _ s.clause (λ l f u. f) unmet) in
          absurd (some_fails s.hints (assumed_negation problem.atoms s.clause) 0 ag e)
      go false is false e = cc

-- each clause of accepted steps is true where the rules and the clauses before are
pub all_hold : (v : List Bool) (problem : Problem) (earlier steps : List Step) → Satisfies v problem → Each (λ (s : Step). satisfies_clause v s.clause ≡ true) earlier → AreAcceptedAfter problem earlier steps → Each (λ (s : Step). satisfies_clause v s.clause ≡ true) steps
all_hold v problem earlier [] met held h = tt
all_hold v problem earlier (s ∷ steps) met held h =
    let here = clause_holds v problem earlier met held s h.0 in
    (here, all_hold v problem (earlier ++ s ∷ []) steps met (each_push _ earlier s held here) h.1)

each_under : (problem : Problem) (steps : List Step) → ((v : List Bool) → Satisfies v problem → Each (λ (s : Step). satisfies_clause v s.clause ≡ true) steps) → Each (λ (s : Step). Follows problem s.clause) steps
each_under problem [] h = tt
each_under problem (s ∷ steps) h = (λ v met. (h v met).0, each_under problem steps (λ v met. (h v met).1))

-- every clause of an accepted list follows
pub clauses_follow : AcceptedClausesFollow
clauses_follow problem steps accepted = each_under problem steps (λ v met. all_hold v problem [] steps met tt accepted)

-- the clause of one step of an accepted list follows
pub clause_follows : (problem : Problem) (steps : List Step) → AreAccepted problem steps → (n : ℕ) (s : Step) → slice_get steps n ≡ Some s → Follows problem s.clause
clause_follows problem steps accepted n s e = each_at (λ (t : Step). Follows problem t.clause) steps n s (clauses_follow problem steps accepted) e

-- a step accepted after an accepted list follows
pub next_follows : (problem : Problem) (earlier : List Step) (s : Step) → AreAccepted problem earlier → failing_hint problem earlier s ≡ None → Follows problem s.clause
next_follows problem earlier s accepted e v met = clause_holds v problem earlier met (all_hold v problem [] earlier met tt accepted) s e

-- ---- refutations

opposite : (pos x : Bool) → under_sign (not pos) x ≡ true → under_sign pos x ≡ false
opposite true true e = cc
opposite true false e = refl
opposite false true e = refl
opposite false false e = cc

negation_false : (v : List Bool) (question : List Lit) → SatisfiesQuestion v question → (l : Lit) → Contains question (negation l) → makes_true v l ≡ false
negation_false v question met l (k, lt, is) =
    let at = slice_get-get_or question k (negation l) lt ∙ ap Some is in
    opposite l.positive (value_of v l.atom.0) (each_at (λ (m : Lit). makes_true v m ≡ true) question k (negation l) met at)

negations_false : (v : List Bool) (question clause : List Lit) → SatisfiesQuestion v question → NegatesOnly question clause → satisfies_clause v clause ≡ false
negations_false v question [] met h = refl
negations_false v question (l ∷ ls) met h = rw (negation_false v question met l h.0, negations_false v question ls met h.1)

-- a clause that follows and holds only negations of a question's literals refutes it
pub no_assignment : (problem : Problem) (question clause : List Lit) → Follows problem clause → NegatesOnly question clause → (v : List Bool) → Satisfies v problem → SatisfiesQuestion v question → ⊥
no_assignment problem question clause follows negates v met asked = let e = follows v met in let f = negations_false v question clause asked negates in cc

-- a question that has a refutation has no assignment
pub refuted_fail : RefutedQuestionsFail
refuted_fail problem question steps r (v, met, asked) = no_assignment problem question r.last.clause (clause_follows problem steps r.accepted (length steps - 1) r.last r.is_last) r.negates v met asked
