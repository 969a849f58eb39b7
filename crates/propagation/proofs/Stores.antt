-- A store whose trail gains an entry or loses one.
use Rattle.std.proofs.Common.{◌≡◌, ℕ, zero, suc, ◌+◌, ◌-◌, ◌<◌, ◌≤◌, Bool, true, false, not, List, [], ◌∷◌, ◌++◌, map, length, get_or, Option, Some, None, refl, sym, ap, ◌∙◌, arith, slice_get}
use Rattle.std.specs.Prelude.{replicate, nat_lt, ◌==◌, ◌&&◌, ◌||◌}
use Rattle.std.specs.List.{AllByRecursion as Each}
use Rattle.std.proofs.lemmas.Bool.Decides.{nat_tests}
use Rattle.std.proofs.lemmas.List.{get_or_default, get_or-append_right, length-set, length-replicate}
use Rattle.std.proofs.lemmas.Option.{slice_get_within}
use Rattle.count_core.specs.declared.lit.Lit.{Lit}
use Rattle.count_core.specs.declared.count_rule.CountRule.{CountRule}
use Rattle.count_core.specs.Problems.{Problem, mentions}
use Rattle.count_core.specs.Assignments.{under_sign}
use Rattle.count_core.specs.PartialAssignments.{PartialAssignment, value_at, trues, falses}
use Rattle.propagation.specs.declared.clause.Clause.{Clause}
use Rattle.propagation.specs.declared.occurrence.Occurrence.{Occurrence}
use Rattle.propagation.specs.Trails.{Entry, lits_of, with_true, extended, values_of, IsFree}
use Rattle.propagation.specs.Constraints.{rule_of_clause, constraints_of, constraint_at, nth, no_constraint}
use Rattle.propagation.specs.Causes.{IsCaused, AreCaused}
use Rattle.propagation.specs.Occurrences.{OccurrenceList, no_list, no_occurrence, items_at, number_listed, number_in, counter, AreListed, AreBelow, IsRaised, CanFall, is_listed}
use Rattle.propagation.specs.Queues.{affects, falsifies}
use Rattle.propagation.specs.Stores.{IsShaped, IsStore, no_entry}
use Rattle.propagation.proofs.Basics.{bit, each_nth}
use Rattle.propagation.proofs.Trails.{extended_append, length_values}
use Rattle.propagation.proofs.Counting.{trues_after, falses_after, mentions_where_none, number_both, listed_none, listed_some, sign_not}
use Rattle.count_core.proofs.Lists.{count_cons}

-- the occurrences that are read at an atom
pub items_read : (lists : List OccurrenceList) (a : ℕ) (v : OccurrenceList) (os : List Occurrence) → os ≡ v.items → v ≡ get_or lists a v → a < length lists → os ≡ items_at lists a
items_read lists a v os is at lt = is ∙ ap (λ (q : OccurrenceList). q.items) (at ∙ get_or_default lists a v no_list lt)

-- ---- causes of entries

pub caused_push : (problem : Problem) (clauses : List Clause) (p : PartialAssignment) (es : List Entry) (e : Entry) → AreCaused problem clauses p es → IsFree (extended p es) e.lit → IsCaused problem clauses (extended p es) e.lit e.cause → AreCaused problem clauses p (es ++ e ∷ [])
caused_push problem clauses p [] e h free due = (free, due, tt)
caused_push problem clauses p (x ∷ es) e h free due = (h.0, h.1, caused_push problem clauses (with_true p x.lit) es e h.2 free due)

pub caused_pop : (problem : Problem) (clauses : List Clause) (p : PartialAssignment) (es : List Entry) (e : Entry) → AreCaused problem clauses p (es ++ e ∷ []) → AreCaused problem clauses p es × IsFree (extended p es) e.lit
caused_pop problem clauses p [] e h = (tt, h.0)
caused_pop problem clauses p (x ∷ es) e h = (let rest = caused_pop problem clauses (with_true p x.lit) es e h.2 in ((h.0, h.1, rest.0), rest.1))

caused_at : (problem : Problem) (clauses : List Clause) (es : List Entry) (p : PartialAssignment) (k : ℕ) (d : Entry) → AreCaused problem clauses p es → k < length es → (get_or es k d).lit.atom.0 < length p
caused_at problem clauses [] p k d h lt = absurd (omega arith)
caused_at problem clauses (e ∷ es) p zero d h lt = slice_get_within p e.lit.atom.0 None h.0
caused_at problem clauses (e ∷ es) p (suc k) d h lt = (let rest = caused_at problem clauses es (with_true p e.lit) k d h.2 (omega arith) in omega (arith, rest, length-set p e.lit.atom.0 (Some e.lit.positive)))

-- the literal of an entry, as the list of literals has it
lit_read : (es : List Entry) (k : ℕ) (d : Lit) → k < length es → get_or (lits_of es) k d ≡ (get_or es k no_entry).lit
lit_read [] k d lt = absurd (omega arith)
lit_read (e ∷ es) zero d lt = refl
lit_read (e ∷ es) (suc k) d lt = lit_read es k d (omega arith)

pub lit_within : (problem : Problem) (clauses : List Clause) (es : List Entry) (k : ℕ) (d : Lit) → AreCaused problem clauses (replicate problem.atoms None) es → k < length es → (get_or (lits_of es) k d).atom.0 < problem.atoms
lit_within problem clauses es k d h lt =
    let nothing : Option Bool = None in
    rw (lit_read es k d lt) (omega (arith, caused_at problem clauses es (replicate problem.atoms None) k no_entry h lt, length-replicate problem.atoms nothing))

known_free : (p : PartialAssignment) (a : ℕ) → slice_get p a ≡ Some None → value_at p a ≡ None
known_free p a e = rw e refl

-- ---- an entry more or less

module _ (problem : Problem) (clauses : List Clause) (es : List Entry) (lists : List OccurrenceList) (l : Lit) (listed : AreListed problem.atoms (constraints_of problem clauses) lists) (free : IsFree (values_of problem.atoms es) l) where
  pub free_within : l.atom.0 < problem.atoms
  free_within = omega (arith, slice_get_within (values_of problem.atoms es) l.atom.0 None free, length_values problem.atoms es)

  pub free_listed : l.atom.0 < length lists
  free_listed = omega (arith, free_within, listed.atoms_number)

  trues_next : (n : ℕ) → trues (with_true (values_of problem.atoms es) l) (constraint_at problem clauses n).lits ≡ trues (values_of problem.atoms es) (constraint_at problem clauses n).lits + number_listed l.positive n (items_at lists l.atom.0)
  trues_next n =
      let inside = slice_get_within (values_of problem.atoms es) l.atom.0 None free in
      let after = trues_after (values_of problem.atoms es) l.atom.0 l.positive inside (known_free (values_of problem.atoms es) l.atom.0 free) (constraint_at problem clauses n).lits in
      omega (arith, after, listed.numbers l.positive n l.atom.0)

  falses_next : (n : ℕ) → falses (with_true (values_of problem.atoms es) l) (constraint_at problem clauses n).lits ≡ falses (values_of problem.atoms es) (constraint_at problem clauses n).lits + number_listed (not l.positive) n (items_at lists l.atom.0)
  falses_next n =
      let inside = slice_get_within (values_of problem.atoms es) l.atom.0 None free in
      let after = falses_after (values_of problem.atoms es) l.atom.0 l.positive inside (known_free (values_of problem.atoms es) l.atom.0 free) (constraint_at problem clauses n).lits in
      omega (arith, after, listed.numbers (not l.positive) n l.atom.0)

module _ (problem : Problem) (clauses : List Clause) (atoms : ℕ) (es : List Entry) (ts fs : List ℕ) (lists : List OccurrenceList) (splits : List ℕ) (h : IsStore problem clauses atoms es ts fs lists splits) where
  pub below_trues : (a n : ℕ) → n ≡ length ts → AreBelow n (items_at lists a)
  below_trues a n e = rw (e, h.counted.trues_number) (h.listed.below a)

  pub below_falses : (a n : ℕ) → n ≡ length fs → AreBelow n (items_at lists a)
  below_falses a n e = rw (e, h.counted.falses_number) (h.listed.below a)

  pub store_set : (e : Entry) (more : ℕ) (after : List Entry) (us gs : List ℕ) → IsFree (values_of problem.atoms es) e.lit → IsCaused problem clauses (values_of problem.atoms es) e.lit e.cause → more ≡ atoms → after ≡ es ++ e ∷ []
      → IsRaised ts us e.lit.positive (items_at lists e.lit.atom.0) → IsRaised fs gs (not e.lit.positive) (items_at lists e.lit.atom.0) → length us ≡ length ts → length gs ≡ length fs
      → IsStore problem clauses more after us gs lists splits
  store_set e more after us gs free due same is up down lu lg =
      let push = extended_append (replicate problem.atoms None) es (e ∷ []) in
      record {
        atoms_are = same ∙ h.atoms_are;
        shaped = h.shaped;
        short = h.short;
        counted = record {
          trues = λ n. rw (is, push) (let next = trues_next problem clauses es lists e.lit h.listed free n in omega (arith, up n, next, h.counted.trues n));
          falses = λ n. rw (is, push) (let next = falses_next problem clauses es lists e.lit h.listed free n in omega (arith, down n, next, h.counted.falses n));
          trues_number = lu ∙ h.counted.trues_number;
          falses_number = lg ∙ h.counted.falses_number;
        };
        listed = h.listed;
        split = h.split;
        caused = rw is (caused_push problem clauses (replicate problem.atoms None) es e h.caused free due);
      }

module _ (problem : Problem) (clauses : List Clause) (atoms : ℕ) (es before : List Entry) (e : Entry) (ts fs : List ℕ) (lists : List OccurrenceList) (splits : List ℕ) (h : IsStore problem clauses atoms before ts fs lists splits) (is : before ≡ es ++ e ∷ []) where
  pub last_free : AreCaused problem clauses (replicate problem.atoms None) es × IsFree (values_of problem.atoms es) e.lit
  last_free = caused_pop problem clauses (replicate problem.atoms None) es e (rw is at h.caused)

  pub pop_listed : (l : Lit) → e.lit ≡ l → l.atom.0 < length lists
  pop_listed l same = rw (← same) (free_listed problem clauses es lists e.lit h.listed last_free.1)

  counted_trues : (n : ℕ) → counter ts n ≡ trues (values_of problem.atoms es) (constraint_at problem clauses n).lits + number_listed e.lit.positive n (items_at lists e.lit.atom.0)
  counted_trues n = h.counted.trues n ∙ rw (is, extended_append (replicate problem.atoms None) es (e ∷ [])) (trues_next problem clauses es lists e.lit h.listed last_free.1 n)

  counted_falses : (n : ℕ) → counter fs n ≡ falses (values_of problem.atoms es) (constraint_at problem clauses n).lits + number_listed (not e.lit.positive) n (items_at lists e.lit.atom.0)
  counted_falses n = h.counted.falses n ∙ rw (is, extended_append (replicate problem.atoms None) es (e ∷ [])) (falses_next problem clauses es lists e.lit h.listed last_free.1 n)

  pub fall_trues : CanFall ts e.lit.positive (items_at lists e.lit.atom.0)
  fall_trues n = omega (arith, counted_trues n)

  pub fall_falses : CanFall fs (not e.lit.positive) (items_at lists e.lit.atom.0)
  fall_falses n = omega (arith, counted_falses n)

  pub store_pop : (less : ℕ) (us gs : List ℕ) → less ≡ atoms
      → IsRaised us ts e.lit.positive (items_at lists e.lit.atom.0) → IsRaised gs fs (not e.lit.positive) (items_at lists e.lit.atom.0) → length us ≡ length ts → length gs ≡ length fs
      → IsStore problem clauses less es us gs lists splits
  store_pop less us gs same up down lu lg = record {
    atoms_are = same ∙ h.atoms_are;
    shaped = h.shaped;
    short = h.short;
    counted = record {
      trues = λ n. omega (arith, up n, counted_trues n);
      falses = λ n. omega (arith, down n, counted_falses n);
      trues_number = lu ∙ h.counted.trues_number;
      falses_number = lg ∙ h.counted.falses_number;
    };
    listed = h.listed;
    split = h.split;
    caused = last_free.0;
  }

-- ---- counters of one constraint

module _ (problem : Problem) (clauses : List Clause) (atoms : ℕ) (es : List Entry) (ts fs : List ℕ) (lists : List OccurrenceList) (splits : List ℕ) (h : IsStore problem clauses atoms es ts fs lists splits) (n : ℕ) (lt : n < length (constraints_of problem clauses)) where
  pub true_count : (t : ℕ) → t ≡ get_or ts n t → t ≡ trues (values_of problem.atoms es) (constraint_at problem clauses n).lits
  true_count t e = e ∙ get_or_default ts n t 0 (omega (arith, h.counted.trues_number)) ∙ h.counted.trues n

  pub false_count : (f : ℕ) → f ≡ get_or fs n f → f ≡ falses (values_of problem.atoms es) (constraint_at problem clauses n).lits
  false_count f e = e ∙ get_or_default fs n f 0 (omega (arith, h.counted.falses_number)) ∙ h.counted.falses n

-- ---- what is listed

-- a constraint that is not listed at an atom has no literal over it
pub unlisted : (atoms : ℕ) (rules : List CountRule) (lists : List OccurrenceList) (a n : ℕ) → AreListed atoms rules lists → is_listed n (items_at lists a) ≡ false → mentions a (nth rules n).lits ≡ false
unlisted atoms rules lists a n h e =
    mentions_where_none a (nth rules n).lits (sym (h.numbers true n a) ∙ listed_none true n (items_at lists a) e) (sym (h.numbers false n a) ∙ listed_none false n (items_at lists a) e)

-- a list without a literal that is false where m is true
falsified_none : (m : Lit) (ls : List Lit) → number_in (not m.positive) m.atom.0 ls ≡ 0 → falsifies m ls ≡ false
falsified_none m [] e = refl
falsified_none m (l ∷ ls) e =
    go ((l.atom.0 == m.atom.0) && not (under_sign l.positive m.positive)) refl
    (rw (sign_not l.positive m.positive) at (sym (count_cons (λ (x : Lit). (x.atom.0 == m.atom.0) && under_sign x.positive (not m.positive)) l ls) ∙ e))
    (falsified_none m ls)
  where
    go : (t : Bool) → ((l.atom.0 == m.atom.0) && not (under_sign l.positive m.positive)) ≡ t → bit ((l.atom.0 == m.atom.0) && not (under_sign l.positive m.positive)) + number_in (not m.positive) m.atom.0 ls ≡ 0 → (number_in (not m.positive) m.atom.0 ls ≡ 0 → falsifies m ls ≡ false)
        → (((l.atom.0 == m.atom.0) && not (under_sign l.positive m.positive)) || falsifies m ls) ≡ false
    go true is e rest = (let one = ap bit is in absurd (omega arith))
    go false is e rest = rw is (rest (omega arith))

-- past the rules stands a clause, of which any number may be true
clause_wide : (problem : Problem) (clauses : List Clause) (n : ℕ) → length problem.rules ≤ n → n < length (constraints_of problem clauses) → (constraint_at problem clauses n).hi ≡ length (constraint_at problem clauses n).lits
clause_wide problem clauses n le lt = rw (get_or-append_right problem.rules (map rule_of_clause clauses) (length problem.rules) n no_constraint refl le) (go clauses (n - length problem.rules))
  where
    go : (cs : List Clause) (k : ℕ) → (nth (map rule_of_clause cs) k).hi ≡ length (nth (map rule_of_clause cs) k).lits
    go [] k = refl
    go (c ∷ cs) zero = refl
    go (c ∷ cs) (suc k) = go cs k

-- a literal that makes one of a clause's true does not affect it
pub clause_unaffected : (problem : Problem) (clauses : List Clause) (lists : List OccurrenceList) (m : Lit) (k : ℕ) → Each (IsShaped problem.atoms) (constraints_of problem clauses) → AreListed problem.atoms (constraints_of problem clauses) lists
    → k < length (items_at lists m.atom.0) → length problem.rules ≤ (get_or (items_at lists m.atom.0) k no_occurrence).constraint → under_sign (get_or (items_at lists m.atom.0) k no_occurrence).positive m.positive ≡ true
    → affects m (constraint_at problem clauses (get_or (items_at lists m.atom.0) k no_occurrence).constraint) ≡ false
clause_unaffected problem clauses lists m k shaped listed lt le sign = rw (falsified_none m (constraint_at problem clauses n).lits none, narrow) refl
  where
    n : ℕ
    n = (get_or (items_at lists m.atom.0) k no_occurrence).constraint

    within : n < length (constraints_of problem clauses)
    within = each_nth (λ (o : Occurrence). o.constraint < length (constraints_of problem clauses)) (items_at lists m.atom.0) k no_occurrence (listed.below m.atom.0) lt

    distinct : IsShaped problem.atoms (constraint_at problem clauses n)
    distinct = each_nth (IsShaped problem.atoms) (constraints_of problem clauses) n no_constraint shaped within

    narrow : nat_lt (constraint_at problem clauses n).hi (length (constraint_at problem clauses n).lits) ≡ false
    narrow = (let wide = clause_wide problem clauses n le within in grind (arith, nat_tests))

    none : number_in (not m.positive) m.atom.0 (constraint_at problem clauses n).lits ≡ 0
    none =
        let some = listed_some m.positive (items_at lists m.atom.0) k no_occurrence lt sign in
        let count = listed.numbers m.positive n m.atom.0 in
        let both = number_both m.positive m.atom.0 (constraint_at problem clauses n).lits distinct.distinct in
        omega arith
