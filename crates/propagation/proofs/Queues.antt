-- Which constraints stay quiet, as the trail grows and shrinks.
use Rattle.std.proofs.Common.{◌≡◌, ◌≢◌, ℕ, zero, suc, ◌+◌, ◌-◌, ◌<◌, ◌≤◌, Bool, true, false, not, cond, List, [], ◌∷◌, ◌++◌, length, length-append, length-take, take, drop, get_or, Option, Some, None, refl, sym, ap, ◌∙◌, arith}
use Rattle.std.specs.Prelude.{◌&&◌, slice_set, ◌==◌, ◌||◌, nat_lt, replicate}
use Rattle.std.specs.List.{AllByRecursion as Each}
use Rattle.std.proofs.lemmas.Bool.Decides.{nat_tests, Decides-ltb}
use Rattle.std.proofs.lemmas.List.{append_assoc, append-nil, drop_all, drop_more, take_all, take-append-le, take-append-drop, get_or-set_same, get_or-set_other, get_or_append_left}
use Rattle.std.proofs.lemmas.List.Sums.{count_by-le-length}
use Rattle.std.proofs.lemmas.Option.{slice_get_within}
use Rattle.count_core.specs.declared.lit.Lit.{Lit}
use Rattle.count_core.specs.declared.hint.Hint.{Hint}
use Rattle.count_core.specs.declared.count_rule.CountRule.{CountRule}
use Rattle.count_core.specs.Problems.{Problem, mentions}
use Rattle.count_core.specs.Assignments.{under_sign}
use Rattle.count_core.specs.PartialAssignments.{PartialAssignment, value_at, is_true, is_false, trues, falses, unsets, forces, forced_assignment, assign_all}
use Rattle.count_core.proofs.Lists.{count_cons}
use Rattle.count_core.proofs.Assigning.{value_at_other}
use Rattle.count_core.proofs.RuleEffects.{numbers_add, conflicts_is, forces_is, forced_is}
use Rattle.propagation.specs.declared.clause.Clause.{Clause}
use Rattle.propagation.specs.declared.progress.Progress.{Progress}
use Rattle.propagation.specs.declared.occurrence.Occurrence.{Occurrence}
use Rattle.propagation.specs.Trails.{Entry, with_true, extended, values_of, IsFree, AreFree}
use Rattle.propagation.specs.Constraints.{IsQuietConstraint, no_constraint}
use Rattle.propagation.specs.Causes.{AreCaused}
use Rattle.propagation.specs.Firings.{Firing, AreFirings, after_firings, entries_forced, entries_fired}
use Rattle.propagation.specs.Occurrences.{no_occurrence, number_in, is_listed, items_at, counter}
use Rattle.propagation.specs.Stores.{Store, constraints_in, constraint_in, values_in, rules_number, in_rules, IsQuietIn, in_clauses, no_entry, HasCausedTrail, OnlyTrailDiffers, Grows}
use Rattle.propagation.specs.Queues.{falsifies, affects, is_affected, past_rules, past_clauses, past_constraint, head_of, AreQuietBut, AreQuiet, IsWithin, IsDone, HaveNoRules, HaveNoClauses, AreQuietAt, IsNoGreater}
use Rattle.propagation.proofs.Basics.{bit, neither, false_both, same_is, apart_is, each_from, drop_push}
use Rattle.propagation.proofs.Trails.{extended_append}
use Rattle.propagation.proofs.Counting.{sign_not, trues_after, falses_after}
use Rattle.propagation.proofs.Statuses.{calm_within, calm_over, forces_some}
use Rattle.propagation.proofs.Forced.{extended_setting}

-- ---- a set literal that affects a constraint in no way

module _ (p : PartialAssignment) (a : ℕ) (o : Option Bool) where
  same_numbers : (ls : List Lit) → mentions a ls ≡ false → (trues (slice_set p a o) ls ≡ trues p ls) × (falses (slice_set p a o) ls ≡ falses p ls)
  same_numbers [] e = (refl, refl)
  same_numbers (l ∷ ls) e =
      let parts = neither (l.atom.0 == a) (mentions a ls) e in
      let rest = same_numbers ls parts.1 in
      let here = value_at_other p a o l.atom.0 (apart_is l.atom.0 a parts.0) in (
        count_cons (is_true (slice_set p a o)) l ls ∙ rw here (ap (λ n. bit (is_true p l) + n) rest.0) ∙ sym (count_cons (is_true p) l ls),
        count_cons (is_false (slice_set p a o)) l ls ∙ rw here (ap (λ n. bit (is_false p l) + n) rest.1) ∙ sym (count_cons (is_false p) l ls),
      )

-- a constraint of the same numbers does the same
quiet_same : (p q : PartialAssignment) (r : CountRule) → trues q r.lits ≡ trues p r.lits → falses q r.lits ≡ falses p r.lits → IsQuietConstraint p r → IsQuietConstraint q r
quiet_same p q r t f (calm, idle) =
    let u : unsets q r.lits ≡ unsets p r.lits = omega (arith, numbers_add p r.lits, numbers_add q r.lits) in (
      conflicts_is q r.lits r.lo r.hi ∙ rw (t, f) (sym (conflicts_is p r.lits r.lo r.hi) ∙ calm),
      forces_is q r.lits r.lo r.hi ∙ rw (t, f, u) (sym (forces_is p r.lits r.lo r.hi) ∙ idle),
    )

-- one that any number of true literals satisfies stays quiet where none becomes false
module _ (p q : PartialAssignment) (r : CountRule) (f : falses q r.lits ≡ falses p r.lits) (t : trues p r.lits ≤ trues q r.lits) (wide : length r.lits ≤ r.hi) where
  quiet_wide : IsQuietConstraint p r → IsQuietConstraint q r
  quiet_wide (calm, idle) =
      let most = count_by-le-length (is_true q) r.lits in
      let low = (calm_over p r.lits r.lo r.hi calm).1 in
      let le : r.lo ≤ length r.lits - falses p r.lits = grind (arith, nat_tests) in
      (calm_within q r.lits r.lo r.hi (omega arith) (rw f le), go (nat_lt 0 (unsets q r.lits)) refl)
    where
      go : (u : Bool) → nat_lt 0 (unsets q r.lits) ≡ u → forces q r.lits r.lo r.hi ≡ false
      go false e = rw (forces_is, e) refl
      go true e =
          let left : 0 < unsets q r.lits = (Decides-ltb 0 (unsets q r.lits)).0 e in
          let before = numbers_add p r.lits in
          let after = numbers_add q r.lits in
          let some : nat_lt 0 (unsets p r.lits) ≡ true = (Decides-ltb 0 (unsets p r.lits)).1 (omega arith) in
          let bounds : ((trues p r.lits == r.hi) || (length r.lits - falses p r.lits == r.lo)) ≡ false = rw some at (sym (forces_is p r.lits r.lo r.hi) ∙ idle) in
          let lower : (length r.lits - falses q r.lits == r.lo) ≡ false = rw f (neither (trues p r.lits == r.hi) (length r.lits - falses p r.lits == r.lo) bounds).1 in
          let ne : trues q r.lits ≢ r.hi = λ h. absurd (omega arith) in
          let upper : (trues q r.lits == r.hi) ≡ false = grind (arith, nat_tests) in
          rw (forces_is, e, upper, lower) refl

none_false : (m : Lit) (ls : List Lit) → falsifies m ls ≡ false → number_in (not m.positive) m.atom.0 ls ≡ 0
none_false m [] e = refl
none_false m (l ∷ ls) e =
    let parts = neither ((l.atom.0 == m.atom.0) && not (under_sign l.positive m.positive)) (falsifies m ls) e in
    count_cons (λ (x : Lit). (x.atom.0 == m.atom.0) && under_sign x.positive (not m.positive)) l ls ∙ rw (sign_not l.positive m.positive, parts.0, none_false m ls parts.1) refl

quiet_unaffected : (p : PartialAssignment) (m : Lit) (r : CountRule) → IsFree p m → affects m r ≡ false → IsQuietConstraint p r → IsQuietConstraint (with_true p m) r
quiet_unaffected p m r free e quiet =
    let parts = neither (falsifies m r.lits) (nat_lt r.hi (length r.lits) && mentions m.atom.0 r.lits) e in
    go (nat_lt r.hi (length r.lits)) refl parts.0 parts.1
  where
    go : (t : Bool) → nat_lt r.hi (length r.lits) ≡ t → falsifies m r.lits ≡ false → (t && mentions m.atom.0 r.lits) ≡ false → IsQuietConstraint (with_true p m) r
    go true is f g = (let same = same_numbers p m.atom.0 (Some m.positive) r.lits g in quiet_same p (with_true p m) r same.0 same.1 quiet)
    go false is f g =
        let inside = slice_get_within p m.atom.0 None free in
        let none : value_at p m.atom.0 ≡ None = rw free refl in
        let down = falses_after p m.atom.0 m.positive inside none r.lits in
        let up = trues_after p m.atom.0 m.positive inside none r.lits in
        let wide : length r.lits ≤ r.hi = grind (arith, nat_tests) in
        quiet_wide p (with_true p m) r (omega (arith, down, none_false m r.lits f)) (omega (arith, up)) wide quiet

pub quiet_extended : (es : List Entry) (p : PartialAssignment) (r : CountRule) → AreFree p es → is_affected es r ≡ false → IsQuietConstraint p r → IsQuietConstraint (extended p es) r
quiet_extended [] p r free e quiet = quiet
quiet_extended (x ∷ es) p r free e quiet =
    let parts = neither (affects x.lit r) (is_affected es r) e in
    quiet_extended es (with_true p x.lit) r free.1 parts.1 (quiet_unaffected p x.lit r free.0 parts.0 quiet)

-- an entry whose atom it does not mention affects it in no way
unmentioned : (m : Lit) (r : CountRule) → mentions m.atom.0 r.lits ≡ false → affects m r ≡ false
unmentioned m r e = rw (none r.lits e, e) (false_both (nat_lt r.hi (length r.lits)) false refl)
  where
    none : (ls : List Lit) → mentions m.atom.0 ls ≡ false → falsifies m ls ≡ false
    none [] e = refl
    none (l ∷ ls) e = (let parts = neither (l.atom.0 == m.atom.0) (mentions m.atom.0 ls) e in rw (parts.0, none ls parts.1) refl)

-- ---- a trail that grows

-- later entries of a caused trail are free when their turn comes
free_rest : (problem : Problem) (clauses : List Clause) (xs ys : List Entry) (p : PartialAssignment) → AreCaused problem clauses p (xs ++ ys) → AreFree (extended p xs) ys
free_rest problem clauses [] [] p h = tt
free_rest problem clauses [] (y ∷ ys) p h = (h.0, free_rest problem clauses [] ys (with_true p y.lit) h.2)
free_rest problem clauses (x ∷ xs) ys p h = free_rest problem clauses xs ys (with_true p x.lit) h.2

pub differs_same : (a : Store) → OnlyTrailDiffers a a
differs_same a = record { problem = refl; clauses = refl; lists = refl; splits = refl; room = omega arith }

pub differs_trans : (a b c : Store) → OnlyTrailDiffers a b → OnlyTrailDiffers b c → OnlyTrailDiffers a c
differs_trans a b c f g = record {
  problem = g.problem ∙ f.problem;
  clauses = g.clauses ∙ f.clauses;
  lists = g.lists ∙ f.lists;
  splits = g.splits ∙ f.splits;
  room = omega (arith, f.room, g.room);
}

firings_append : (problem : Problem) (clauses : List Clause) (fs gs : List Firing) (p : PartialAssignment) → AreFirings problem clauses p fs → AreFirings problem clauses (after_firings p fs) gs → AreFirings problem clauses p (fs ++ gs)
firings_append problem clauses [] gs p h k = k
firings_append problem clauses (f ∷ fs) gs p h k = (h.0, h.1, h.2, firings_append problem clauses fs gs (forced_assignment p f.rule.lits f.rule.lo f.rule.hi) h.3 k)

fired_append : (fs gs : List Firing) (p : PartialAssignment) → entries_fired p (fs ++ gs) ≡ entries_fired p fs ++ entries_fired (after_firings p fs) gs
fired_append [] gs p = refl
fired_append (f ∷ fs) gs p =
    let q = forced_assignment p f.rule.lits f.rule.lo f.rule.hi in
    rw (fired_append fs gs q) (sym (append_assoc (entries_forced f.hint p f.rule) (entries_fired q fs) (entries_fired (after_firings q fs) gs)))

-- what a constraint adds makes what it forces
extended_forced : (h : Hint) (p : PartialAssignment) (r : CountRule) → forces p r.lits r.lo r.hi ≡ true → extended p (entries_forced h p r) ≡ forced_assignment p r.lits r.lo r.hi
extended_forced h p r e =
    extended_setting h (not (trues p r.lits == r.hi)) r.lits p
    ∙ sym (forced_is p r.lits r.lo r.hi ∙ go (trues p r.lits == r.hi) (length r.lits - falses p r.lits == r.lo) (forces_some p r.lits r.lo r.hi e).1)
  where
    go : (t u : Bool) → (t || u) ≡ true → cond t (assign_all false r.lits p) (cond u (assign_all true r.lits p) p) ≡ assign_all (not t) r.lits p
    go true u e = refl
    go false true e = refl
    go false false e = cc

extended_fired : (problem : Problem) (clauses : List Clause) (fs : List Firing) (p : PartialAssignment) → AreFirings problem clauses p fs → extended p (entries_fired p fs) ≡ after_firings p fs
extended_fired problem clauses [] p h = refl
extended_fired problem clauses (f ∷ fs) p h =
    extended_append p (entries_forced f.hint p f.rule) (entries_fired (forced_assignment p f.rule.lits f.rule.lo f.rule.hi) fs)
    ∙ rw (extended_forced f.hint p f.rule h.2) (extended_fired problem clauses fs (forced_assignment p f.rule.lits f.rule.lo f.rule.hi) h.3)

pub grows_same : (a : Store) → Grows a a
grows_same a = ([], tt, sym (append-nil a.entries))

pub grows_trans : (a b c : Store) → OnlyTrailDiffers a b → Grows a b → Grows b c → Grows a c
grows_trans a b c kept (fs, hf, ef) (gs, hg, eg) =
    let problem = kept.problem in
    let mid : values_in b ≡ after_firings (values_in a) fs = rw (problem, ef, extended_append (replicate a.problem.atoms None) a.entries (entries_fired (values_in a) fs)) (extended_fired a.problem a.clauses fs (values_in a) hf) in
    let hg' : AreFirings a.problem a.clauses (after_firings (values_in a) fs) gs = rw (mid, problem, kept.clauses) at hg in
    let eg' : c.entries ≡ b.entries ++ entries_fired (after_firings (values_in a) fs) gs = rw mid at eg in
    (fs ++ gs, firings_append a.problem a.clauses fs gs (values_in a) hf hg', eg' ∙ rw (ef, fired_append fs gs (values_in a)) (append_assoc a.entries (entries_fired (values_in a) fs) (entries_fired (after_firings (values_in a) fs) gs)))

pub grows_longer : (a b : Store) → Grows a b → length a.entries ≤ length b.entries
grows_longer a b (fs, h, e) = rw e (omega (arith, length-append a.entries (entries_fired (values_in a) fs)))

-- the entries that were there stay
pub entry_front : (a b : Store) (k : ℕ) → Grows a b → k < length a.entries → get_or b.entries k no_entry ≡ get_or a.entries k no_entry
entry_front a b k (fs, h, e) lt = rw e (get_or_append_left a.entries (entries_fired (values_in a) fs) no_entry k lt)

-- ---- what is quiet

affected_append : (xs ys : List Entry) (r : CountRule) → is_affected (xs ++ ys) r ≡ false → (is_affected xs r ≡ false) × (is_affected ys r ≡ false)
affected_append [] ys r e = (refl, e)
affected_append (x ∷ xs) ys r e =
    let parts = neither (affects x.lit r) (is_affected (xs ++ ys) r) e in
    let rest = affected_append xs ys r parts.1 in
    (rw (parts.0, rest.0) refl, rest.1)

-- the head of a constraint is within the trail
pub head_within : (s : Store) (q : Progress) (n : ℕ) → IsWithin s q → head_of s q n ≤ length s.entries
head_within s q n h = go (nat_lt n (rules_number s))
  where
    go : (t : Bool) → cond t q.rules q.clauses ≤ length s.entries
    go true = h.rules
    go false = h.clauses

-- the trail grows
pub quiet_grow : (old new : Store) (es : List Entry) (q : Progress) (os : List Occurrence) → HasCausedTrail new → AreQuietBut old q os → OnlyTrailDiffers old new → new.entries ≡ old.entries ++ es → ((n : ℕ) → head_of old q n ≤ length old.entries) → AreQuietBut new q os
quiet_grow old new es q os caused h kept is within n low un unlisted =
    let same : constraint_in new n ≡ constraint_in old n = rw (kept.problem, kept.clauses) refl in
    let head : head_of new q n ≡ head_of old q n = rw kept.problem refl in
    let split = affected_append (drop (head_of old q n) old.entries) es (constraint_in old n) (rw (head, same, is, drop_push old.entries es (head_of old q n) (within n)) at un) in
    let before = h n low split.0 unlisted in
    let free : AreFree (values_in old) es = free_rest old.problem old.clauses old.entries es (replicate old.problem.atoms None) (rw (is, kept.problem, kept.clauses) at caused) in
    rw (same, kept.problem, is, extended_append (replicate old.problem.atoms None) old.entries es) (quiet_extended es (values_in old) (constraint_in old n) free split.1 before)

pub quiet_more : (old new : Store) (q : Progress) (os : List Occurrence) → HasCausedTrail new → AreQuietBut old q os → OnlyTrailDiffers old new → Grows old new → IsWithin old q → AreQuietBut new q os
quiet_more old new q os caused h kept (fs, hf, is) within = quiet_grow old new (entries_fired (values_in old) fs) q os caused h kept is (λ n. head_within old q n within)

pub within_more : (old new : Store) (q : Progress) → IsWithin old q → OnlyTrailDiffers old new → Grows old new → IsWithin new q
within_more old new q h kept grows =
    let long = grows_longer old new grows in
    record {
      rules = omega (arith, long, h.rules);
      clauses = omega (arith, long, h.clauses);
      examined = rw (kept.problem, kept.clauses) h.examined;
    }

-- the next entry was visited
pub within_rules : (s : Store) (q : Progress) → IsWithin s q → q.rules < length s.entries → IsWithin s (past_rules q)
within_rules s q h lt = record { rules = omega arith; clauses = h.clauses; examined = h.examined }

pub within_clauses : (s : Store) (q : Progress) → IsWithin s q → q.clauses < length s.entries → IsWithin s (past_clauses q)
within_clauses s q h lt = record { rules = h.rules; clauses = omega arith; examined = h.examined }

-- a pending entry is split off
pending_first : (s : Store) (head : ℕ) (r : CountRule) → head < length s.entries → is_affected (drop head s.entries) r ≡ (affects (get_or s.entries head no_entry).lit r || is_affected (drop (head + 1) s.entries) r)
pending_first s head r lt = rw (drop_more s.entries head no_entry lt) refl

pending_passed : (s : Store) (head : ℕ) (r : CountRule) → head < length s.entries → affects (get_or s.entries head no_entry).lit r ≡ false → is_affected (drop (head + 1) s.entries) r ≡ false → is_affected (drop head s.entries) r ≡ false
pending_passed s head r lt e f = pending_first s head r lt ∙ rw (e, f) refl

-- the first entry is passed for the rules: those listed at its atom may not be quiet
pub start_rules : (s : Store) (q : Progress) → AreQuiet s q → q.rules < length s.entries → HaveNoRules s (get_or s.entries q.rules no_entry).lit.atom.0 → AreQuietBut s (past_rules q) (in_rules s (get_or s.entries q.rules no_entry).lit.atom.0)
start_rules s q h lt others n low un unlisted = go (nat_lt n (rules_number s)) refl un (λ e. h n low e refl)
  where
    go : (t : Bool) → nat_lt n (rules_number s) ≡ t → is_affected (drop (cond t (q.rules + 1) q.clauses) s.entries) (constraint_in s n) ≡ false → (is_affected (drop (cond (nat_lt n (rules_number s)) q.rules q.clauses) s.entries) (constraint_in s n) ≡ false → IsQuietIn s n) → IsQuietIn s n
    go true is un rest =
        let mentions_none = others n ((Decides-ltb n (rules_number s)).0 is) unlisted in
        rest (rw is (pending_passed s q.rules (constraint_in s n) lt (unmentioned (get_or s.entries q.rules no_entry).lit (constraint_in s n) mentions_none) un))
    go false is un rest = rest (rw is un)

-- or for the clauses
pub start_clauses : (s : Store) (q : Progress) → AreQuiet s q → q.clauses < length s.entries → HaveNoClauses s (get_or s.entries q.clauses no_entry).lit.atom.0 → AreQuietBut s (past_clauses q) (in_clauses s (get_or s.entries q.clauses no_entry).lit.atom.0)
start_clauses s q h lt others n low un unlisted = go (nat_lt n (rules_number s)) refl un (λ e. h n low e refl)
  where
    go : (t : Bool) → nat_lt n (rules_number s) ≡ t → is_affected (drop (cond t q.rules (q.clauses + 1)) s.entries) (constraint_in s n) ≡ false → (is_affected (drop (cond (nat_lt n (rules_number s)) q.rules q.clauses) s.entries) (constraint_in s n) ≡ false → IsQuietIn s n) → IsQuietIn s n
    go true is un rest = rest (rw is un)
    go false is un rest =
        let from : rules_number s ≤ n = grind (arith, nat_tests) in
        let mentions_none = others n from unlisted in
        rest (rw is (pending_passed s q.clauses (constraint_in s n) lt (unmentioned (get_or s.entries q.clauses no_entry).lit (constraint_in s n) mentions_none) un))

-- so many occurrences are in rules
pub short_rules : (s : Store) (a k : ℕ) → k < counter s.splits a → counter s.splits a ≤ length (items_at s.lists a) → k < length (in_rules s a)
short_rules s a k lt le = omega (arith, length-take (counter s.splits a) (items_at s.lists a))

-- one of those listed was examined, or needs no look
module _ (s : Store) (q : Progress) (os : List Occurrence) (k : ℕ) (lt : k < length os) where
  listed_first : (n : ℕ) → is_listed n (drop k os) ≡ (((get_or os k no_occurrence).constraint == n) || is_listed n (drop (k + 1) os))
  listed_first n = rw (drop_more os k no_occurrence lt) refl

  pub quiet_examined : AreQuietBut s q (drop k os) → IsQuietIn s (get_or os k no_occurrence).constraint → AreQuietBut s q (drop (k + 1) os)
  quiet_examined h quiet n low un unlisted = go ((get_or os k no_occurrence).constraint == n) refl
    where
      go : (t : Bool) → ((get_or os k no_occurrence).constraint == n) ≡ t → IsQuietIn s n
      go true e = rw (← same_is (get_or os k no_occurrence).constraint n e) quiet
      go false e = h n low un (listed_first n ∙ rw (e, unlisted) refl)

  pub quiet_passed : AreQuiet s q → AreQuietBut s (past_clauses q) (drop k os) → q.clauses < length s.entries → rules_number s ≤ (get_or os k no_occurrence).constraint → affects (get_or s.entries q.clauses no_entry).lit (constraint_in s (get_or os k no_occurrence).constraint) ≡ false → AreQuietBut s (past_clauses q) (drop (k + 1) os)
  quiet_passed still h within from passed n low un unlisted = go ((get_or os k no_occurrence).constraint == n) refl
    where
      go : (t : Bool) → ((get_or os k no_occurrence).constraint == n) ≡ t → IsQuietIn s n
      go true e =
          let same = same_is (get_or os k no_occurrence).constraint n e in
          let clause : nat_lt n (rules_number s) ≡ false = grind (arith, nat_tests) in
          let passed' : affects (get_or s.entries q.clauses no_entry).lit (constraint_in s n) ≡ false = rw same at passed in
          let un' : is_affected (drop (q.clauses + 1) s.entries) (constraint_in s n) ≡ false = rw clause at un in
          still n low (rw clause (pending_passed s q.clauses (constraint_in s n) within passed' un')) refl
      go false e = h n low un (listed_first n ∙ rw (e, unlisted) refl)

-- all of those listed were
pub quiet_end : (s : Store) (q : Progress) (os : List Occurrence) (k : ℕ) → length os ≤ k → AreQuietBut s q (drop k os) → AreQuiet s q
quiet_end s q os k past h = rw (drop_all k os past) at h

-- one constraint more was examined
pub quiet_next : (s : Store) (q : Progress) → AreQuiet s q → IsQuietIn s q.examined → AreQuiet s (past_constraint q)
quiet_next s q h quiet n low un unlisted = go (n == q.examined) refl
  where
    go : (t : Bool) → (n == q.examined) ≡ t → IsQuietIn s n
    go true e = rw (same_is n q.examined e) quiet
    go false e = (let ne = apart_is n q.examined e in h n (omega arith) un unlisted)

-- nothing is pending: all are quiet
quiet_all : (s : Store) (q : Progress) → AreQuiet s q → IsDone s q → (n : ℕ) → n < length (constraints_in s) → IsQuietIn s n
quiet_all s q h done n low = h n (omega (arith, done.examined)) (rw (drop_all (head_of s q n) s.entries (go (nat_lt n (rules_number s)))) refl) refl
  where
    go : (t : Bool) → length s.entries ≤ cond t q.rules q.clauses
    go true = omega (arith, done.rules)
    go false = omega (arith, done.clauses)

pub all_quiet : (s : Store) (q : Progress) → AreQuiet s q → IsDone s q → Each (IsQuietConstraint (values_in s)) (constraints_in s)
all_quiet s q h done = each_from (IsQuietConstraint (values_in s)) (constraints_in s) no_constraint (quiet_all s q h done)

-- ---- what is known at the lengths of the trail

pub quiet_at_grow : (old new : Store) (es : List Entry) (quiet_at : List ℕ) → AreQuietAt old quiet_at → OnlyTrailDiffers old new → new.entries ≡ old.entries ++ es → AreQuietAt new quiet_at
quiet_at_grow old new es quiet_at h kept is i n low =
    let before = h i n low in
    let le : i ≤ length old.entries = before.0 in
    let same : constraint_in new n ≡ constraint_in old n = rw (kept.problem, kept.clauses) refl in
    (omega (arith, ap length is, length-append old.entries es, before.0), rw (same, kept.problem, is, take-append-le i old.entries es le) before.1)

-- all are quiet at the present length
pub quiet_at_set : (s : Store) (quiet_at : List ℕ) (q : Progress) (place : ℕ) → AreQuietAt s quiet_at → AreQuiet s q → IsDone s q → place ≡ length s.entries → place < length quiet_at → AreQuietAt s (slice_set quiet_at place q.examined)
quiet_at_set s quiet_at q place h quiet done is lt i n low = go (i == place) refl
  where
    go : (t : Bool) → (i == place) ≡ t → (i ≤ length s.entries) × IsQuietConstraint (values_of s.problem.atoms (take i s.entries)) (constraint_in s n)
    go true e =
        let same = same_is i place e in
        let low' : n < q.examined = rw (same, get_or-set_same quiet_at place q.examined 0 lt) at low in
        let whole : take i s.entries ≡ s.entries = take_all i s.entries (omega arith) in
        (omega arith, rw whole (quiet_all s q quiet done n (omega (arith, done.examined))))
    go false e = h i n (rw (get_or-set_other quiet_at place i q.examined 0 (apart_is i place e)) at low)

pub quiet_at_below : (quiet_at : List ℕ) (head examined most : ℕ) → ((i : ℕ) → counter quiet_at i ≤ most) → examined ≤ most → head < length quiet_at → (i : ℕ) → counter (slice_set quiet_at head examined) i ≤ most
quiet_at_below quiet_at head examined most h le lt i = go (i == head) refl
  where
    go : (t : Bool) → (i == head) ≡ t → counter (slice_set quiet_at head examined) i ≤ most
    go true is = rw (same_is i head is, get_or-set_same quiet_at head examined 0 lt) le
    go false is = rw (get_or-set_other quiet_at head i examined 0 (apart_is i head is)) (h i)

-- the last entry is taken away, and what was known with it is forgotten
pub quiet_at_pop : (old new : Store) (e : Entry) (quiet_at : List ℕ) (k : ℕ) → AreQuietAt old quiet_at → OnlyTrailDiffers old new → old.entries ≡ new.entries ++ e ∷ [] → k ≡ length old.entries → k < length quiet_at → AreQuietAt new (slice_set quiet_at k 0)
quiet_at_pop old new e quiet_at k h kept is number lt i n low = go (i == k) refl
  where
    go : (t : Bool) → (i == k) ≡ t → (i ≤ length new.entries) × IsQuietConstraint (values_of new.problem.atoms (take i new.entries)) (constraint_in new n)
    go true at =
        let none : counter (slice_set quiet_at k 0) i ≡ 0 = rw (same_is i k at) (get_or-set_same quiet_at k 0 0 lt) in
        absurd (omega arith)
    go false at =
        let other = apart_is i k at in
        let before = h i n (rw (get_or-set_other quiet_at k i 0 0 other) at low) in
        let longer : length old.entries ≡ length new.entries + 1 = omega (arith, ap length is, length-append new.entries (e ∷ [])) in
        let le : i ≤ length new.entries = omega (arith, before.0) in
        let same : constraint_in new n ≡ constraint_in old n = rw (kept.problem, kept.clauses) refl in
        (le, rw (same, kept.problem) (rw (is, take-append-le i new.entries (e ∷ []) le) at before.1))

pub forgotten : (quiet_at : List ℕ) (k : ℕ) → IsNoGreater (slice_set quiet_at k 0) quiet_at
forgotten [] k i = omega arith
forgotten (x ∷ xs) zero zero = omega arith
forgotten (x ∷ xs) zero (suc i) = omega arith
forgotten (x ∷ xs) (suc k) zero = omega arith
forgotten (x ∷ xs) (suc k) (suc i) = forgotten xs k i

-- from a length on at which constraints are known to be quiet, only later entries are pending
pub quiet_from : (s : Store) (quiet_at : List ℕ) (head : ℕ) → HasCausedTrail s → AreQuietAt s quiet_at → AreQuiet s (record { rules = head; clauses = head; examined = counter quiet_at head })
quiet_from s quiet_at head caused h n low un unlisted =
    let before = h head n low in
    let whole : take head s.entries ++ drop head s.entries ≡ s.entries = take-append-drop head s.entries in
    let after : extended (values_of s.problem.atoms (take head s.entries)) (drop head s.entries) ≡ values_in s = sym (extended_append (replicate s.problem.atoms None) (take head s.entries) (drop head s.entries)) ∙ ap (values_of s.problem.atoms) whole in
    let free = free_rest s.problem s.clauses (take head s.entries) (drop head s.entries) (replicate s.problem.atoms None) (rw whole caused) in
    let un' : is_affected (drop head s.entries) (constraint_in s n) ≡ false = go (nat_lt n (rules_number s)) un in
    rw (← after) (quiet_extended (drop head s.entries) (values_of s.problem.atoms (take head s.entries)) (constraint_in s n) free un' before.1)
  where
    go : (t : Bool) → is_affected (drop (cond t head head) s.entries) (constraint_in s n) ≡ false → is_affected (drop head s.entries) (constraint_in s n) ≡ false
    go true e = e
    go false e = e
