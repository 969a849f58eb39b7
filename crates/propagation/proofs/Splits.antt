-- Occurrences in rules before those in clauses.
use Rattle.std.proofs.Common.{◌≡◌, ℕ, ◌+◌, ◌-◌, ◌≤◌, ◌<◌, false, List, [], ◌∷◌, ◌++◌, length, length-append, take, drop, get_or, refl, sym, ◌∙◌, arith}
use Rattle.std.specs.Prelude.{◌==◌}
use Rattle.std.proofs.lemmas.Bool.Decides.{nat_tests}
use Rattle.std.proofs.lemmas.List.{take_all, drop_all, take-append-drop, take-append-le, get_or-drop, length-drop}
use Rattle.count_core.specs.declared.lit.Lit.{Lit}
use Rattle.count_core.specs.declared.count_rule.CountRule.{CountRule}
use Rattle.count_core.proofs.Lists.{each_map}
use Rattle.propagation.specs.declared.occurrence.Occurrence.{Occurrence}
use Rattle.propagation.specs.Occurrences.{OccurrenceList, no_occurrence, items_at, is_listed, counter, AreBelow, AreFrom, AreEntered, AreListed, AreLengths, AreSplit, HaveSameItems}
use Rattle.propagation.proofs.Basics.{neither, each_nth, each_append, drop_push}

-- ---- what is not listed

listed_append : (n : ℕ) (xs ys : List Occurrence) → is_listed n xs ≡ false → is_listed n ys ≡ false → is_listed n (xs ++ ys) ≡ false
listed_append n [] ys e f = f
listed_append n (x ∷ xs) ys e f = (let parts = neither (x.constraint == n) (is_listed n xs) e in rw (parts.0, listed_append n xs ys parts.1 f) refl)

below_unlisted : (m n : ℕ) (os : List Occurrence) → AreBelow m os → m ≤ n → is_listed n os ≡ false
below_unlisted m n [] h le = refl
below_unlisted m n (o ∷ os) h le =
    let lt = h.0 in
    let miss : (o.constraint == n) ≡ false = grind (arith, nat_tests) in
    rw (miss, below_unlisted m n os h.1 le) refl

from_unlisted : (m n : ℕ) (os : List Occurrence) → AreFrom m os → n < m → is_listed n os ≡ false
from_unlisted m n [] h lt = refl
from_unlisted m n (o ∷ os) h lt =
    let le = h.0 in
    let miss : (o.constraint == n) ≡ false = grind (arith, nat_tests) in
    rw (miss, from_unlisted m n os h.1 lt) refl

module _ (m : ℕ) (splits : List ℕ) (lists : List OccurrenceList) (h : AreSplit m splits lists) (a : ℕ) where
  whole : take (counter splits a) (items_at lists a) ++ drop (counter splits a) (items_at lists a) ≡ items_at lists a
  whole = take-append-drop (counter splits a) (items_at lists a)

  -- a rule that is not among the first, and a clause that is not among the others
  pub rule_unlisted : (n : ℕ) → n < m → is_listed n (take (counter splits a) (items_at lists a)) ≡ false → is_listed n (items_at lists a) ≡ false
  rule_unlisted n lt e = (let all = listed_append n (take (counter splits a) (items_at lists a)) (drop (counter splits a) (items_at lists a)) e (from_unlisted m n (drop (counter splits a) (items_at lists a)) (h.after a) lt) in rw whole at all)

  pub clause_unlisted : (n : ℕ) → m ≤ n → is_listed n (drop (counter splits a) (items_at lists a)) ≡ false → is_listed n (items_at lists a) ≡ false
  clause_unlisted n le e = (let all = listed_append n (take (counter splits a) (items_at lists a)) (drop (counter splits a) (items_at lists a)) (below_unlisted m n (take (counter splits a) (items_at lists a)) (h.before a) le) e in rw whole at all)

  -- past the first stand clauses
  pub clause_from : (k : ℕ) → counter splits a ≤ k → k < length (items_at lists a) → m ≤ (get_or (items_at lists a) k no_occurrence).constraint
  clause_from k le lt =
      let place : counter splits a + (k - counter splits a) ≡ k = omega arith in
      let short : k - counter splits a < length (drop (counter splits a) (items_at lists a)) = omega (arith, length-drop (counter splits a) (items_at lists a)) in
      let here = each_nth (λ (o : Occurrence). m ≤ o.constraint) (drop (counter splits a) (items_at lists a)) (k - counter splits a) no_occurrence (h.after a) short in
      rw (get_or-drop (counter splits a) (items_at lists a) (k - counter splits a) no_occurrence, place) at here

-- ---- lists that are made and changed

pub split_new : (atoms : ℕ) (rules : List CountRule) (splits : List ℕ) (lists : List OccurrenceList) → AreListed atoms rules lists → AreLengths splits lists → AreSplit (length rules) splits lists
split_new atoms rules splits lists listed lengths = record {
  number = lengths.number;
  within = λ a. omega (arith, lengths.each a);
  before = λ a. rw (lengths.each a, take_all (length (items_at lists a)) (items_at lists a) (omega arith)) (listed.below a);
  after = λ a. rw (lengths.each a, drop_all (length (items_at lists a)) (items_at lists a) (omega arith)) tt;
}

module _ (m : ℕ) (splits : List ℕ) (lists : List OccurrenceList) (h : AreSplit m splits lists) where
  pub split_same : (new : List OccurrenceList) → HaveSameItems lists new → length new ≡ length lists → AreSplit m splits new
  split_same new same len = record {
    number = h.number ∙ sym len;
    within = λ a. rw (same a) (h.within a);
    before = λ a. rw (same a) (h.before a);
    after = λ a. rw (same a) (h.after a);
  }

  -- the literals of a later constraint are entered
  pub split_enter : (n : ℕ) (ls : List Lit) (new : List OccurrenceList) → AreEntered lists new n ls → m ≤ n → length new ≡ length lists → AreSplit m splits new
  split_enter n ls new entered le len = record {
    number = h.number ∙ sym len;
    within = λ a. (let e = (entered.appended a).1 in rw e (omega (arith, h.within a, length-append (items_at lists a) (entered.appended a).0)));
    before = λ a. (let e = (entered.appended a).1 in rw (e, take-append-le (counter splits a) (items_at lists a) (entered.appended a).0 (h.within a)) (h.before a));
    after = λ a.
        (let e = (entered.appended a).1 in
        rw (e, drop_push (items_at lists a) (entered.appended a).0 (counter splits a) (h.within a))
        (each_append (λ (o : Occurrence). m ≤ o.constraint) (drop (counter splits a) (items_at lists a)) (entered.appended a).0 (h.after a) (each_map (λ (o : Occurrence). o.constraint ≡ n) (λ (o : Occurrence). m ≤ o.constraint) (entered.appended a).0 (λ o is. omega arith) (entered.appended a).2)));
  }
