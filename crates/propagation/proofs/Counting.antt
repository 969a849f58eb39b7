-- What the numbers of a constraint become where an atom gets a value.
use Rattle.std.proofs.Common.{◌≡◌, ℕ, zero, suc, ◌+◌, ◌<◌, ◌≤◌, Bool, true, false, not, List, [], ◌∷◌, length, get_or, Option, Some, None, refl, sym, ap, ◌∙◌, arith}
use Rattle.std.specs.Prelude.{count_by, slice_set, ◌==◌, ◌&&◌, ◌||◌}
use Rattle.count_core.specs.declared.lit.Lit.{Lit}
use Rattle.count_core.specs.Problems.{mentions, repeats}
use Rattle.count_core.specs.Assignments.{under_sign}
use Rattle.count_core.specs.PartialAssignments.{PartialAssignment, value_at, has_sign, is_true, is_false, trues, falses}
use Rattle.count_core.proofs.Lists.{count_cons}
use Rattle.count_core.proofs.Assigning.{value_at_other, value_at_same}
use Rattle.propagation.specs.declared.occurrence.Occurrence.{Occurrence}
use Rattle.propagation.specs.Occurrences.{number_listed, number_in, is_listed}
use Rattle.propagation.proofs.Basics.{bit, neither, same_yes, same_is, apart_is}

-- ---- counts

-- what stands at a place and passes is counted
pub count_some : {X : Type 0} (p : X → Bool) (xs : List X) (k : ℕ) (d : X) → k < length xs → p (get_or xs k d) ≡ true → 0 < count_by p xs
count_some p [] k d lt e = absurd (omega arith)
count_some p (x ∷ xs) zero d lt e = (let one = ap bit e in omega (arith, one, count_cons p x xs))
count_some p (x ∷ xs) (suc k) d lt e = omega (arith, count_cons p x xs, count_some p xs k d (omega arith) e)

-- ---- signs

pub sign_not : (s b : Bool) → under_sign s (not b) ≡ not (under_sign s b)
sign_not true b = refl
sign_not false true = refl
sign_not false false = refl

sign_swap : (s b : Bool) → under_sign (not s) b ≡ under_sign s (not b)
sign_swap true b = refl
sign_swap false true = refl
sign_swap false false = refl

sign_of : (s x : Bool) → has_sign s (Some x) ≡ under_sign s x
sign_of true x = refl
sign_of false x = refl

sign_unset : (s : Bool) (k : Option Bool) → k ≡ None → has_sign s k ≡ false
sign_unset s None e = refl
sign_unset s (Some c) e = cc

-- ---- an unset atom gets a value

module _ (p : PartialAssignment) (a : ℕ) (x : Bool) (lt : a < length p) (unset : value_at p a ≡ None) where
  sign_after : (s : Bool) (k : ℕ) → bit (has_sign s (value_at (slice_set p a (Some x)) k)) ≡ bit (has_sign s (value_at p k)) + bit ((k == a) && under_sign s x)
  sign_after s k = go (k == a) refl
    where
      go : (t : Bool) → (k == a) ≡ t → bit (has_sign s (value_at (slice_set p a (Some x)) k)) ≡ bit (has_sign s (value_at p k)) + bit (t && under_sign s x)
      go true is =
          let same = same_is k a is in
          let after : has_sign s (value_at (slice_set p a (Some x)) k) ≡ under_sign s x = rw (same, value_at_same p a x lt) (sign_of s x) in
          let before : has_sign s (value_at p k) ≡ false = sign_unset s (value_at p k) (rw same unset) in
          rw (after, before) (let n : ℕ = bit (under_sign s x) in omega arith)
      go false is = rw (value_at_other p a (Some x) k (apart_is k a is)) (omega arith)

  pub trues_after : (ls : List Lit) → trues (slice_set p a (Some x)) ls ≡ trues p ls + number_in x a ls
  trues_after [] = refl
  trues_after (l ∷ ls) =
      let rest = trues_after ls in
      let here = sign_after l.positive l.atom.0 in
      let after = count_cons (is_true (slice_set p a (Some x))) l ls in
      let before = count_cons (is_true p) l ls in
      let more = count_cons (λ (m : Lit). (m.atom.0 == a) && under_sign m.positive x) l ls in
      omega arith

  pub falses_after : (ls : List Lit) → falses (slice_set p a (Some x)) ls ≡ falses p ls + number_in (not x) a ls
  falses_after [] = refl
  falses_after (l ∷ ls) =
      let rest = falses_after ls in
      let here = rw (sign_swap l.positive x) at (sign_after (not l.positive) l.atom.0) in
      let after = count_cons (is_false (slice_set p a (Some x))) l ls in
      let before = count_cons (is_false p) l ls in
      let more = count_cons (λ (m : Lit). (m.atom.0 == a) && under_sign m.positive (not x)) l ls in
      omega arith

-- ---- how many literals are over an atom

pub number_none : (b : Bool) (a : ℕ) (ls : List Lit) → mentions a ls ≡ false → number_in b a ls ≡ 0
number_none b a [] e = refl
number_none b a (l ∷ ls) e =
    let parts = neither (l.atom.0 == a) (mentions a ls) e in
    count_cons (λ (m : Lit). (m.atom.0 == a) && under_sign m.positive b) l ls ∙ rw (parts.0, number_none b a ls parts.1) refl

pub mentions_where_none : (a : ℕ) (ls : List Lit) → number_in true a ls ≡ 0 → number_in false a ls ≡ 0 → mentions a ls ≡ false
mentions_where_none a [] e f = refl
mentions_where_none a (l ∷ ls) e f =
    go (l.atom.0 == a) l.positive
    (mentions_where_none a ls)
    (sym (count_cons (λ (m : Lit). (m.atom.0 == a) && under_sign m.positive true) l ls) ∙ e)
    (sym (count_cons (λ (m : Lit). (m.atom.0 == a) && under_sign m.positive false) l ls) ∙ f)
  where
    go : (t s : Bool) → (number_in true a ls ≡ 0 → number_in false a ls ≡ 0 → mentions a ls ≡ false) → bit (t && under_sign s true) + number_in true a ls ≡ 0 → bit (t && under_sign s false) + number_in false a ls ≡ 0 → (t || mentions a ls) ≡ false
    go true true rest e f = absurd (omega arith)
    go true false rest e f = absurd (omega arith)
    go false s rest e f = rest (omega arith) (omega arith)

-- where no atom stands twice, at most one literal is over it
pub number_both : (b : Bool) (a : ℕ) (ls : List Lit) → repeats ls ≡ false → number_in b a ls + number_in (not b) a ls ≤ 1
number_both b a [] h = omega arith
number_both b a (l ∷ ls) h =
    let parts = neither (mentions l.atom.0 ls) (repeats ls) h in
    go (l.atom.0 == a) refl parts.0 (under_sign l.positive b) (under_sign l.positive (not b)) (sign_not l.positive b)
    (count_cons (λ (m : Lit). (m.atom.0 == a) && under_sign m.positive b) l ls)
    (count_cons (λ (m : Lit). (m.atom.0 == a) && under_sign m.positive (not b)) l ls)
    (number_both b a ls parts.1)
  where
    go : (t : Bool) → (l.atom.0 == a) ≡ t → mentions l.atom.0 ls ≡ false → (s u : Bool) → u ≡ not s
        → number_in b a (l ∷ ls) ≡ bit (t && s) + number_in b a ls → number_in (not b) a (l ∷ ls) ≡ bit (t && u) + number_in (not b) a ls
        → number_in b a ls + number_in (not b) a ls ≤ 1 → number_in b a (l ∷ ls) + number_in (not b) a (l ∷ ls) ≤ 1
    go false is un s u turned f g rest = omega arith
    go true is un true true turned f g rest = cc
    go true is un false false turned f g rest = cc
    go true is un true false turned f g rest =
        let none : mentions a ls ≡ false = rw (same_is l.atom.0 a is) at un in
        omega (arith, f, g, number_none b a ls none, number_none (not b) a ls none)
    go true is un false true turned f g rest =
        let none : mentions a ls ≡ false = rw (same_is l.atom.0 a is) at un in
        omega (arith, f, g, number_none b a ls none, number_none (not b) a ls none)

-- so the literal at a place is counted once, at its sign
pub number_once : (b : Bool) (ls : List Lit) (k : ℕ) (d : Lit) → k < length ls → repeats ls ≡ false → number_in b (get_or ls k d).atom.0 ls ≡ bit (under_sign (get_or ls k d).positive b)
number_once b ls k d lt distinct = go (under_sign (get_or ls k d).positive b) refl
  where
    own : (c : Bool) → under_sign (get_or ls k d).positive c ≡ true → 0 < number_in c (get_or ls k d).atom.0 ls
    own c e = count_some (λ (m : Lit). (m.atom.0 == (get_or ls k d).atom.0) && under_sign m.positive c) ls k d lt (rw (same_yes (get_or ls k d).atom.0 (get_or ls k d).atom.0 refl) e)

    go : (t : Bool) → under_sign (get_or ls k d).positive b ≡ t → number_in b (get_or ls k d).atom.0 ls ≡ bit t
    go true e = omega (arith, own b e, number_both b (get_or ls k d).atom.0 ls distinct)
    go false e =
        let other : under_sign (get_or ls k d).positive (not b) ≡ true = sign_not (get_or ls k d).positive b ∙ ap not e in
        omega (arith, own (not b) other, number_both b (get_or ls k d).atom.0 ls distinct)

-- ---- how many literals are listed

pub listed_none : (b : Bool) (n : ℕ) (os : List Occurrence) → is_listed n os ≡ false → number_listed b n os ≡ 0
listed_none b n [] e = refl
listed_none b n (o ∷ os) e =
    let parts = neither (o.constraint == n) (is_listed n os) e in
    count_cons (λ (x : Occurrence). (x.constraint == n) && under_sign x.positive b) o os ∙ rw (parts.0, listed_none b n os parts.1) refl

pub listed_some : (b : Bool) (os : List Occurrence) (k : ℕ) (d : Occurrence) → k < length os → under_sign (get_or os k d).positive b ≡ true → 0 < number_listed b (get_or os k d).constraint os
listed_some b os k d lt e = count_some (λ (x : Occurrence). (x.constraint == (get_or os k d).constraint) && under_sign x.positive b) os k d lt (rw (same_yes (get_or os k d).constraint (get_or os k d).constraint refl) e)
