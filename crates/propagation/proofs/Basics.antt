-- Lists by place, and small facts on truth values.
use Rattle.std.proofs.Common.{◌≡◌, ◌≢◌, ℕ, zero, suc, ◌≤◌, ◌<◌, Bool, true, false, not, cond, List, [], ◌∷◌, ◌++◌, length, take, drop, get_or, Option, Some, None, slice_get, refl, sym, ap, ◌∙◌, arith}
use Rattle.std.specs.Prelude.{slice_set, ◌==◌, ◌||◌, ◌&&◌}
use Rattle.std.specs.List.{AllByRecursion as Each}
use Rattle.std.specs.Option.{is_some}
use Rattle.std.proofs.lemmas.Bool.Decides.{nat_tests, Decides-eqb}
use Rattle.count_core.proofs.Lists.{written_back}

abbrev pub bit : Bool → ℕ
bit t = cond t 1 0

pub neither : (a b : Bool) → (a || b) ≡ false → (a ≡ false) × (b ≡ false)
neither true b e = cc
neither false b e = (refl, e)

pub false_both : (a b : Bool) → b ≡ false → (a && b) ≡ false
false_both true b e = e
false_both false b e = refl

pub true_either : (a b : Bool) → b ≡ true → (a || b) ≡ true
true_either true b e = refl
true_either false b e = e

-- ---- equal numbers

pub same_yes : (a b : ℕ) → a ≡ b → (a == b) ≡ true
same_yes a b e = (Decides-eqb a b).1 e

pub same_is : (a b : ℕ) → (a == b) ≡ true → a ≡ b
same_is a b e = (Decides-eqb a b).0 e

pub apart_is : (a b : ℕ) → (a == b) ≡ false → a ≢ b
apart_is a b e = λ q. (let hit = same_yes a b q in cc)

pub apart_back : (a b : ℕ) → (a == b) ≡ false → b ≢ a
apart_back a b e = λ q. (let hit = same_yes a b (sym q) in cc)

-- ---- lists by place

-- one more at the end
pub nth_push : {X : Type 0} (xs : List X) (x d : X) (n : ℕ) → get_or (xs ++ x ∷ []) n d ≡ cond (length xs == n) x (get_or xs n d)
nth_push [] x d zero = refl
nth_push [] x d (suc n) = rw (miss n) refl
  where
    miss : (n : ℕ) → (0 == suc n) ≡ false
    miss n = grind (arith, nat_tests)
nth_push (y ∷ xs) x d zero = rw (miss (length xs)) refl
  where
    miss : (k : ℕ) → (suc k == 0) ≡ false
    miss k = grind (arith, nat_tests)
nth_push (y ∷ xs) x d (suc n) = rw (down (length xs) n) (nth_push xs x d n)
  where
    down : (k n : ℕ) → (suc k == suc n) ≡ (k == n)
    down k n = grind (arith, nat_tests)

pub each_from : {X : Type 0} (P : X → Type 0) (xs : List X) (d : X) → ((n : ℕ) → n < length xs → P (get_or xs n d)) → Each P xs
each_from P [] d h = tt
each_from P (x ∷ xs) d h = (h zero (omega arith), each_from P xs d (λ n lt. h (suc n) (omega arith)))

pub each_nth : {X : Type 0} (P : X → Type 0) (xs : List X) (n : ℕ) (d : X) → Each P xs → n < length xs → P (get_or xs n d)
each_nth P [] n d h lt = absurd (omega arith)
each_nth P (x ∷ xs) zero d h lt = h.0
each_nth P (x ∷ xs) (suc n) d h lt = each_nth P xs n d h.1 (omega arith)

pub each_append : {X : Type 0} (P : X → Type 0) (xs ys : List X) → Each P xs → Each P ys → Each P (xs ++ ys)
each_append P [] ys h k = k
each_append P (x ∷ xs) ys h k = (h.0, each_append P xs ys h.1 k)

pub drop_push : {X : Type 0} (xs ys : List X) (i : ℕ) → i ≤ length xs → drop i (xs ++ ys) ≡ drop i xs ++ ys
drop_push [] ys zero le = refl
drop_push [] ys (suc i) le = absurd (omega arith)
drop_push (x ∷ xs) ys zero le = refl
drop_push (x ∷ xs) ys (suc i) le = drop_push xs ys i (omega arith)

-- a list that was lent as a slice and comes back
pub returned : {X : Type 0} (xs new : List X) (n : ℕ) → n ≡ length xs → length new ≡ length xs → take n (new ++ drop (length new) xs) ≡ new
returned xs new n is same = written_back n new xs (same ∙ sym is) (sym is)

-- ---- reads after a write

pub read_same : {X : Type 0} (xs : List X) (a : ℕ) (x y : X) → slice_get xs a ≡ Some y → slice_get (slice_set xs a x) a ≡ Some x
read_same [] a x y e = cc
read_same (z ∷ xs) zero x y e = refl
read_same (z ∷ xs) (suc a) x y e = read_same xs a x y e

pub read_other : {X : Type 0} (xs : List X) (a : ℕ) (x : X) (k : ℕ) → k ≢ a → slice_get (slice_set xs a x) k ≡ slice_get xs k
read_other [] a x k ne = refl
read_other (z ∷ xs) zero x zero ne = absurd (ne refl)
read_other (z ∷ xs) zero x (suc k) ne = refl
read_other (z ∷ xs) (suc a) x zero ne = refl
read_other (z ∷ xs) (suc a) x (suc k) ne = read_other xs a x k (λ e. ne (ap suc e))

-- ---- options

pub none_where : {X : Type 0} (o : Option X) → is_some o ≡ false → o ≡ None
none_where None e = refl
none_where (Some x) e = cc

pub none_was : {X : Type 0} (o : Option X) (b : Bool) → is_some o ≡ not b → b ≡ true → o ≡ None
none_was None b e f = refl
none_was (Some x) b e f = cc
