-- Accepted lists taken apart, put together and renumbered.
use Rattle.std.proofs.Common.{◌≡◌, ℕ, zero, suc, ◌+◌, ◌-◌, Bool, true, false, cond, List, [], ◌∷◌, ◌++◌, append-nil, append_assoc, length, take, drop, add-one, refl, sym, ap, ◌∙◌, Option, Some, None, arith, slice_get, subst}
use Rattle.std.specs.Prelude.{option_map, map}
use Rattle.std.specs.List.{AllByRecursion as Each}
use Rattle.std.proofs.lemmas.List.{take-append-drop}
use Rattle.count_core.proofs.Lists.{get_front}
use Rattle.count_core.specs.declared.count_rule.CountRule.{CountRule}
use Rattle.count_core.specs.declared.hint.Hint.{Hint}
use Rattle.count_core.specs.declared.hint.Hint.TheVariants.{Rule, Step as Earlier}
use Rattle.count_core.specs.declared.step.Step.{Step}
use Rattle.count_core.specs.Problems.{Problem}
use Rattle.count_core.specs.PartialAssignments.{PartialAssignment, conflicts, forces, forced_assignment}
use Rattle.count_core.specs.Steps.{clause_rule, rule_at, is_last, apply_hint, failing_from, assumed_negation, is_clause, IsAccepted, AreAcceptedAfter, AreAccepted, HasLast}

-- the hints name, one by one, rules that the others name too
abbrev pub NameTheSame : (Hint → Option CountRule) → (Hint → Option CountRule) → List Hint → List Hint → Type 0
NameTheSame find other [] [] = Unit {0}
NameTheSame find other [] (g ∷ gs) = ⊥
NameTheSame find other (h ∷ hs) [] = ⊥
NameTheSame find other (h ∷ hs) (g ∷ gs) = ((r : CountRule) → find h ≡ Some r → other g ≡ Some r) × NameTheSame find other hs gs

same_last : (find other : Hint → Option CountRule) (hs gs : List Hint) → NameTheSame find other hs gs → is_last hs ≡ is_last gs
same_last find other [] [] h = refl
same_last find other [] (g ∷ gs) h = absurd h
same_last find other (x ∷ hs) [] h = absurd h
same_last find other (x ∷ hs) (g ∷ gs) h = refl

hint_moved : (p : PartialAssignment) (o q : Option CountRule) → ((r : CountRule) → o ≡ Some r → q ≡ Some r) → (last : Bool) (i : ℕ) (go on : PartialAssignment → Option ℕ) → ((a : PartialAssignment) → go a ≡ None → on a ≡ None) → apply_hint p o last i go ≡ None → apply_hint p q last i on ≡ None
hint_moved p None q same last i go on rest e = cc
hint_moved p (Some r) q same last i go on rest e =
    rw (same r refl) (by_case (conflicts p r.lits r.lo r.hi) (forces p r.lits r.lo r.hi) (rest (forced_assignment p r.lits r.lo r.hi)) e)
  where
    by_case : (c f : Bool) → (go (forced_assignment p r.lits r.lo r.hi) ≡ None → on (forced_assignment p r.lits r.lo r.hi) ≡ None) → cond c (cond last None (Some i)) (cond f (go (forced_assignment p r.lits r.lo r.hi)) (Some i)) ≡ None → cond c (cond last None (Some i)) (cond f (on (forced_assignment p r.lits r.lo r.hi)) (Some i)) ≡ None
    by_case true f rest e = e
    by_case false true rest e = rest e
    by_case false false rest e = e

-- that no hint fails depends only on the rules that the hints name
pub failing_moved : (find other : Hint → Option CountRule) (hs gs : List Hint) → NameTheSame find other hs gs → (p : PartialAssignment) (i : ℕ) → failing_from find p hs i ≡ None → failing_from other p gs i ≡ None
failing_moved find other [] [] h p i e = e
failing_moved find other [] (g ∷ gs) h p i e = absurd h
failing_moved find other (x ∷ hs) [] h p i e = absurd h
failing_moved find other (x ∷ hs) (g ∷ gs) h p i e =
    rw (sym (same_last find other hs gs h.1))
    (hint_moved p (find x) (other g) h.0 (is_last hs) i (λ q. failing_from find q hs (i + 1)) (λ q. failing_from other q gs (i + 1)) (λ q f. failing_moved find other hs gs h.1 q (i + 1) f) e)

-- A step accepted after `earlier` is accepted after `others` with hints that name the same rules there.
pub accepted_moved : (problem : Problem) (earlier others : List Step) (s : Step) (gs : List Hint) → NameTheSame (rule_at problem earlier) (rule_at problem others) s.hints gs → IsAccepted problem earlier s → IsAccepted problem others (record { clause = s.clause; hints = gs })
accepted_moved problem earlier others s gs same e = go (is_clause problem s.clause) e
  where
    go : (c : Bool) → cond c (failing_from (rule_at problem earlier) (assumed_negation problem.atoms s.clause) s.hints 0) (Some 0) ≡ None → cond c (failing_from (rule_at problem others) (assumed_negation problem.atoms s.clause) gs 0) (Some 0) ≡ None
    go true e = failing_moved (rule_at problem earlier) (rule_at problem others) s.hints gs same (assumed_negation problem.atoms s.clause) 0 e
    go false e = cc

-- hints renumbered by a function that keeps what they name
pub mapped_name_the_same : (find other : Hint → Option CountRule) (g : Hint → Hint) (hs : List Hint) → Each (λ h. (r : CountRule) → find h ≡ Some r → other (g h) ≡ Some r) hs → NameTheSame find other hs (map g hs)
mapped_name_the_same find other g [] h = tt
mapped_name_the_same find other g (x ∷ hs) h = (h.0, mapped_name_the_same find other g hs h.1)

-- hints as they are, where nothing that they name is lost
pub kept_name_the_same : (find other : Hint → Option CountRule) (hs : List Hint) → ((h : Hint) (r : CountRule) → find h ≡ Some r → other h ≡ Some r) → NameTheSame find other hs hs
kept_name_the_same find other [] keep = tt
kept_name_the_same find other (x ∷ hs) keep = (keep x, kept_name_the_same find other hs keep)

-- ---- hints after longer lists

-- a step that a hint names is there by its number
pub step_named : (problem : Problem) (earlier others : List Step) (n m : ℕ) → ((s : Step) → slice_get earlier n ≡ Some s → (t : Step) × (slice_get others m ≡ Some t) × (t.clause ≡ s.clause)) → (r : CountRule) → rule_at problem earlier (Earlier n) ≡ Some r → rule_at problem others (Earlier m) ≡ Some r
step_named problem earlier others n m same r e = go (slice_get earlier n) refl e
  where
    go : (o : Option Step) → slice_get earlier n ≡ o → option_map (λ (s : Step). clause_rule s.clause) o ≡ Some r → rule_at problem others (Earlier m) ≡ Some r
    go None is e = cc
    go (Some s) is e =
        let there = same s is in
        ap (option_map (λ (t : Step). clause_rule t.clause)) there.1 ∙ ap (λ c. Some (clause_rule c)) there.2 ∙ e

-- what a hint names after a list it names after a longer one
pub named_later : (problem : Problem) (earlier more : List Step) (h : Hint) (r : CountRule) → rule_at problem earlier h ≡ Some r → rule_at problem (earlier ++ more) h ≡ Some r
named_later problem earlier more (Rule n) r e = e
named_later problem earlier more (Earlier n) r e = step_named problem earlier (earlier ++ more) n n (λ s is. (s, get_front earlier more n s is, refl)) r e

-- a step stays accepted after a longer list
pub accepted_later : (problem : Problem) (earlier more : List Step) (s : Step) → IsAccepted problem earlier s → IsAccepted problem (earlier ++ more) s
accepted_later problem earlier more s e = accepted_moved problem earlier (earlier ++ more) s s.hints (kept_name_the_same (rule_at problem earlier) (rule_at problem (earlier ++ more)) s.hints (named_later problem earlier more)) e

-- ---- lists

append_next : {X : Type 0} (xs : List X) (y : X) (ys : List X) → xs ++ y ∷ ys ≡ (xs ++ y ∷ []) ++ ys
append_next xs y ys = sym (append_assoc xs (y ∷ []) ys)

-- accepted steps after accepted ones
pub append_after : (problem : Problem) (earlier one two : List Step) → AreAcceptedAfter problem earlier one → AreAcceptedAfter problem (earlier ++ one) two → AreAcceptedAfter problem earlier (one ++ two)
append_after problem earlier [] two h g = subst (λ e. AreAcceptedAfter problem e two) (append-nil earlier) g
append_after problem earlier (s ∷ one) two h g = (h.0, append_after problem (earlier ++ s ∷ []) one two h.1 (subst (λ e. AreAcceptedAfter problem e two) (append_next earlier s one) g))

-- the front of accepted steps is accepted
pub front_after : (problem : Problem) (earlier one two : List Step) → AreAcceptedAfter problem earlier (one ++ two) → AreAcceptedAfter problem earlier one
front_after problem earlier [] two h = tt
front_after problem earlier (s ∷ one) two h = (h.0, front_after problem (earlier ++ s ∷ []) one two h.1)

-- and the rest after it
pub back_after : (problem : Problem) (earlier one two : List Step) → AreAcceptedAfter problem earlier (one ++ two) → AreAcceptedAfter problem (earlier ++ one) two
back_after problem earlier [] two h = subst (λ e. AreAcceptedAfter problem e two) (sym (append-nil earlier)) h
back_after problem earlier (s ∷ one) two h = subst (λ e. AreAcceptedAfter problem e two) (sym (append_next earlier s one)) (back_after problem (earlier ++ s ∷ []) one two h.1)

-- An accepted list with a step that is accepted after it is accepted.
pub push_accepted : (problem : Problem) (steps : List Step) (s : Step) → AreAccepted problem steps → IsAccepted problem steps s → AreAccepted problem (steps ++ s ∷ [])
push_accepted problem steps s h e = append_after problem [] steps (s ∷ []) h (e, tt)

-- A prefix of an accepted list is accepted.
pub take_accepted : (problem : Problem) (n : ℕ) (steps : List Step) → AreAccepted problem steps → AreAccepted problem (take n steps)
take_accepted problem n steps h = front_after problem [] (take n steps) (drop n steps) (subst (AreAccepted problem) (sym (take-append-drop n steps)) h)

-- Each step of an accepted list is accepted after those before it.
at_after : (problem : Problem) (earlier steps : List Step) (n : ℕ) (s : Step) → AreAcceptedAfter problem earlier steps → slice_get steps n ≡ Some s → IsAccepted problem (earlier ++ take n steps) s
at_after problem earlier [] n s h e = cc
at_after problem earlier (t ∷ steps) zero s h e =
    let same : t ≡ s = cc in
    subst (λ e. IsAccepted problem e s) (sym (append-nil earlier)) (subst (λ x. IsAccepted problem earlier x) same h.0)
at_after problem earlier (t ∷ steps) (suc n) s h e =
    subst (λ e. IsAccepted problem e s) (sym (append_next earlier t (take n steps))) (at_after problem (earlier ++ t ∷ []) steps n s h.1 e)

-- so from the first step on
pub accepted_at : (problem : Problem) (steps : List Step) (n : ℕ) (s : Step) → AreAccepted problem steps → slice_get steps n ≡ Some s → IsAccepted problem (take n steps) s
accepted_at problem steps n s h e = at_after problem [] steps n s h e

-- ---- last steps

past : (t : Step) (steps : List Step) (s : Step) → HasLast steps s → HasLast (t ∷ steps) s
past t [] s e = cc
past t (u ∷ steps) s e = let less : suc (suc (length steps)) - 1 ≡ suc (suc (length steps) - 1) = omega arith in rw less e

last_at : (steps : List Step) (n : ℕ) (s : Step) → slice_get steps n ≡ Some s → HasLast (take (suc n) steps) s
last_at [] n s e = cc
last_at (t ∷ steps) zero s e = e
last_at (t ∷ steps) (suc n) s e = past t (take (suc n) steps) s (last_at steps n s e)

-- the step at a place is the last of those up to it
pub last_of_take : (steps : List Step) (n : ℕ) (s : Step) → slice_get steps n ≡ Some s → HasLast (take (n + 1) steps) s
last_of_take steps n s e = rw add-one (last_at steps n s e)

-- a step put at the end is the last
pub last_pushed : (steps : List Step) (s : Step) → HasLast (steps ++ s ∷ []) s
last_pushed [] s = refl
last_pushed (t ∷ steps) s = past t (steps ++ s ∷ []) s (last_pushed steps s)
