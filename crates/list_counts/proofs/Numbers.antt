-- Lists of numbers that have each of some numbers once.
use Rattle.std.proofs.Common.{◌≡◌, ℕ, zero, suc, ◌+◌, ◌<◌, ◌≤◌, ◌⊎◌, inl, inr, Bool, true, false, cond, not, List, [], ◌∷◌, length, arith, refl, sym, ap, ◌∙◌}
use Rattle.std.specs.Prelude.{count_by, filter, ◌==◌, ◌&&◌}
use Rattle.std.specs.List.{range_with_len}
use Rattle.std.proofs.lemmas.Bool.{cases_Bool, eqb-true, eq-eqb, ne_eqb, not-true, not_from_false}
use Rattle.std.proofs.lemmas.List.FromFn.{length-range_with_len}
use Rattle.list_counts.specs.Counting.{times, AreWithin, HasEachOnce, SameNumbers, AllWithin}
use Rattle.list_counts.proofs.Entries.{filter_among, filter_has}
use Rattle.list_counts.proofs.Counts.{count_cons, count_yes, count_no, count_same, count_none, count_all, count_split, count_filter}

-- those with the number x among those that pass
marked : (test : ℕ → Bool) (x : ℕ) (xs : List ℕ) → count_by (λ y. y == x && test y) xs ≡ cond (test x) (times x xs) 0
marked test x xs = go (test x) refl
  where
    and_true : (b : Bool) → (b && true) ≡ b
    and_true true = refl
    and_true false = refl

    and_false : (b : Bool) → (b && false) ≡ false
    and_false true = refl
    and_false false = refl

    same : (y : ℕ) → (y == x && test y) ≡ (y == x && test x)
    same y = by_cases (cases_Bool (y == x))
      where
        by_cases : ((y == x) ≡ true) ⊎ ((y == x) ≡ false) → (y == x && test y) ≡ (y == x && test x)
        by_cases (inl e) = ap (λ z. y == x && test z) (eqb-true y x e)
        by_cases (inr e) = ap (λ b. b && test y) e ∙ sym (ap (λ b. b && test x) e)

    go : (b : Bool) → test x ≡ b → count_by (λ y. y == x && test y) xs ≡ cond b (times x xs) 0
    go true e = count_same (λ y. y == x && test y) (λ y. y == x) xs (λ k y f. same y ∙ ap (λ b. y == x && b) e ∙ and_true (y == x))
    go false e = count_none (λ y. y == x && test y) xs (λ k y f. same y ∙ ap (λ b. y == x && b) e ∙ and_false (y == x))

-- the list without x
abbrev without : ℕ → List ℕ → List ℕ
without x xs = filter (λ z. not (z == x)) xs

times_without : (x y : ℕ) (xs : List ℕ) → (x ≡ y → ⊥) → times y (without x xs) ≡ times y xs
times_without x y xs n =
    let s = count_split (λ z. z == x) (λ z. z == y) xs in
    let none = marked (λ z. z == y) x xs ∙ ap (λ b. cond b (times x xs) 0) (ne_eqb x y n) in
    omega arith

once_without : (a n : ℕ) (xs : List ℕ) → HasEachOnce a (suc n) xs → HasEachOnce (a + 1) n (without a xs)
once_without a n xs once x low high = times_without a x xs (λ s. omega arith) ∙ once x (omega arith) (omega arith)

pub same_numbers : SameNumbers
same_numbers test a zero [] within once = refl
same_numbers test a zero (x ∷ xs) within once = let h = within 0 x refl in let l = h.0 in let u = h.1 in absurd (omega arith)
same_numbers test a (suc n) xs within once =
    let rest = same_numbers test (a + 1) n (without a xs) left_within (once_without a n xs once) in
    let split = count_split (λ z. z == a) test xs in
    let mark = marked test a xs in
    let one = once a (omega arith) (omega arith) in
    let here = count_cons test a (range_with_len (a + 1) n) in
    let bit = ap (λ k. cond (test a) k 0) one in
    omega arith
  where
    left_within : AreWithin (a + 1) n (without a xs)
    left_within k x e =
        let f = filter_among (λ z. not (z == a)) xs k x e in
        let w = within f.1.0 x f.1.1 in
        let l = w.0 in
        let u = w.1 in
        let isnt = not-true (x == a) f.0 in
        let apart : x ≡ a → ⊥ = λ s. (let t = eq-eqb x a s in cc) in
        (omega arith, omega arith)

-- the list is as long as there are numbers
pub once_length : (a n : ℕ) (xs : List ℕ) → AreWithin a n xs → HasEachOnce a n xs → length xs ≡ n
once_length a n xs within once =
    sym (count_all xs) ∙ same_numbers (λ x. true) a n xs within once
    ∙ count_all (range_with_len a n) ∙ length-range_with_len a n

pub all_within : AllWithin
all_within a n [] size once k x e = cc
all_within a zero (y ∷ xs) size once k x e = absurd (omega arith)
all_within a (suc n) (y ∷ ys) size once k x e = go (cases_Bool (x == a)) (all_within (a + 1) n (without a (y ∷ ys)) short (once_without a n (y ∷ ys) once))
  where
    short : length (without a (y ∷ ys)) ≡ n
    short =
        let s = count_split (λ z. z == a) (λ z. true) (y ∷ ys) in
        let m = marked (λ z. true) a (y ∷ ys) in
        let one = once a (omega arith) (omega arith) in
        let w = count_all (y ∷ ys) in
        let f = count_all (without a (y ∷ ys)) in
        omega arith

    go : ((x == a) ≡ true) ⊎ ((x == a) ≡ false) → AreWithin (a + 1) n (without a (y ∷ ys)) → (a ≤ x) × (x < a + suc n)
    go (inl t) rest = let s = eqb-true x a t in (omega arith, omega arith)
    go (inr t) rest =
        let f = filter_has (λ z. not (z == a)) (y ∷ ys) k x e (not_from_false (x == a) t) in
        let r = rest f.0 x f.1 in
        let l = r.0 in
        let u = r.1 in
        (omega arith, omega arith)

-- ---- the numbers from a on

not_below : (a n x : ℕ) → x < a → times x (range_with_len a n) ≡ 0
not_below a zero x lt = refl
not_below a (suc n) x lt = count_no (λ y. y == x) a (range_with_len (a + 1) n) (ne_eqb a x (λ e. omega arith)) ∙ not_below (a + 1) n x (omega arith)

pub range_once : (a n : ℕ) → HasEachOnce a n (range_with_len a n)
range_once a zero x low high = absurd (omega arith)
range_once a (suc n) x low high = go (cases_Bool (a == x)) (range_once (a + 1) n x)
  where
    go : ((a == x) ≡ true) ⊎ ((a == x) ≡ false) → (a + 1 ≤ x → x < a + 1 + n → times x (range_with_len (a + 1) n) ≡ 1) → times x (range_with_len a (suc n)) ≡ 1
    go (inl e) rest =
        let s = eqb-true a x e in
        count_yes (λ y. y == x) a (range_with_len (a + 1) n) e ∙ ap (λ k. 1 + k) (not_below (a + 1) n x (omega arith))
    go (inr e) rest =
        let apart : a ≡ x → ⊥ = λ s. (let t = eq-eqb a x s in cc) in
        count_no (λ y. y == x) a (range_with_len (a + 1) n) e ∙ rest (omega arith) (omega arith)

-- how often a number passes a test and stands in a list
pub filter_times : (keep : ℕ → Bool) (x : ℕ) (xs : List ℕ) → times x (filter keep xs) ≡ cond (keep x) (times x xs) 0
filter_times keep x xs = count_filtered ∙ marked keep x xs
  where
    turn : (a b : Bool) → (a && b) ≡ (b && a)
    turn true true = refl
    turn true false = refl
    turn false true = refl
    turn false false = refl

    count_filtered : times x (filter keep xs) ≡ count_by (λ y. y == x && keep y) xs
    count_filtered =
        count_filter keep (λ y. y == x) xs
        ∙ count_same (λ y. keep y && y == x) (λ y. y == x && keep y) xs (λ k y e. turn (keep y) (y == x))
