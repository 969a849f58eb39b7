-- Tests, facts of each element, counts, places of two lists put together, and a list written back.
use Rattle.std.proofs.Common.{◌≡◌, ℕ, zero, suc, ◌+◌, ◌≤◌, Bool, true, false, cond, List, [], ◌∷◌, ◌++◌, length, take, drop, ◌⊎◌, inl, inr, refl, ap, arith, Some, slice_get, subst}
use Rattle.std.specs.Prelude.{count_by, ◌||◌, ◌&&◌}
use Rattle.std.specs.List.{AllByRecursion as Each, list_any}
use Rattle.std.proofs.lemmas.Grind.{common_steps}
use Rattle.std.proofs.lemmas.List.Sums.{sum_by-cons}

-- ---- tests

-- two tests that both pass
pub both_true : (a b : Bool) → (a && b) ≡ true → (a ≡ true) × (b ≡ true)
both_true true b e = (refl, e)
both_true false b e = cc

-- tests by `or` in another order
pub regroup : (m e a r : Bool) → (m || ((e || a) || r)) ≡ ((m || a) || (e || r))
regroup true e a r = refl
regroup false true true r = refl
regroup false true false r = refl
regroup false false true r = refl
regroup false false false r = refl

shuffle : (a b c d : Bool) → ((a || b) || (c || d)) ≡ ((a || c) || (b || d))
shuffle true b c d = refl
shuffle false true true d = refl
shuffle false true false d = refl
shuffle false false true d = refl
shuffle false false false d = refl

-- ---- facts of each element

module _ {X : Type 0} where
  -- a fact that gives another
  pub each_map : (P Q : X → Type 0) (xs : List X) → ((x : X) → P x → Q x) → Each P xs → Each Q xs
  each_map P Q [] f h = tt
  each_map P Q (x ∷ xs) f h = (f x h.0, each_map P Q xs f h.1)

  -- the fact of the element at a place
  pub each_at : (P : X → Type 0) (xs : List X) (n : ℕ) (y : X) → Each P xs → slice_get xs n ≡ Some y → P y
  each_at P [] n y h e = cc
  each_at P (x ∷ xs) zero y h e = let same : x ≡ y = cc in subst P same h.0
  each_at P (x ∷ xs) (suc n) y h e = each_at P xs n y h.1 e

  -- one element more
  pub each_push : (P : X → Type 0) (xs : List X) (y : X) → Each P xs → P y → Each P (xs ++ y ∷ [])
  each_push P [] y h e = (e, tt)
  each_push P (x ∷ xs) y h e = (h.0, each_push P xs y h.1 e)

  -- two tests that answer alike
  pub any_same : (p q : X → Bool) → ((x : X) → p x ≡ q x) → (xs : List X) → list_any p xs ≡ list_any q xs
  any_same p q e [] = refl
  any_same p q e (x ∷ xs) = rw (e x, any_same p q e xs)

  -- a test that is one or another
  pub any_or : (p q : X → Bool) (xs : List X) → list_any (λ x. p x || q x) xs ≡ (list_any p xs || list_any q xs)
  any_or p q [] = refl
  any_or p q (x ∷ xs) = rw (any_or p q xs) (shuffle (p x) (q x) (list_any p xs) (list_any q xs))

-- ---- counts

bits : (a b : Bool) → (a ≡ true → b ≡ true) → cond a 1 0 ≤ cond b 1 0
bits true b h = rw (h refl) (omega arith)
bits false b h = omega arith

bits_apart : (a b : Bool) → (a ≡ true → b ≡ false) → cond a 1 0 + cond b 1 0 ≤ 1
bits_apart true b h = rw (h refl) (omega arith)
bits_apart false true h = omega arith
bits_apart false false h = omega arith

bits_back : (a b : Bool) → cond b 1 0 ≤ cond a 1 0 → b ≡ true → a ≡ true
bits_back true b le e = refl
bits_back false true le e = absurd (omega arith)
bits_back false false le e = e

bits_cover : (a b : Bool) → 1 ≤ cond a 1 0 + cond b 1 0 → (a ≡ true) ⊎ (b ≡ true)
bits_cover true b le = inl refl
bits_cover false true le = inr refl
bits_cover false false le = absurd (omega arith)

-- the first element counts, where it passes
pub count_cons : {X : Type 0} (p : X → Bool) (x : X) (xs : List X) → count_by p (x ∷ xs) ≡ cond (p x) 1 0 + count_by p xs
count_cons p x xs = sum_by-cons (λ x. cond (p x) 1 0) x xs

-- where none passes, the count is 0; where each passes, it is the length
pub count_none : {X : Type 0} (p : X → Bool) (xs : List X) → Each (λ x. p x ≡ false) xs → count_by p xs ≡ 0
count_none p [] h = refl
count_none p (x ∷ xs) h = rw (count_cons p x xs, h.0) (omega (arith, count_none p xs h.1))

pub count_each : {X : Type 0} (p : X → Bool) (xs : List X) → Each (λ x. p x ≡ true) xs → count_by p xs ≡ length xs
count_each p [] h = refl
count_each p (x ∷ xs) h = rw (count_cons p x xs, h.0) (omega (arith, count_each p xs h.1))

module _ {X : Type 0} (p q : X → Bool) where
  -- what passes p passes q
  pub count_le : (xs : List X) → ((x : X) → p x ≡ true → q x ≡ true) → count_by p xs ≤ count_by q xs
  count_le [] h = omega arith
  count_le (x ∷ xs) h = omega (arith, count_le xs h, bits (p x) (q x) (h x), count_cons p x xs, count_cons q x xs)

  -- nothing passes both
  pub count_apart : (xs : List X) → ((x : X) → p x ≡ true → q x ≡ false) → count_by p xs + count_by q xs ≤ length xs
  count_apart [] h = omega arith
  count_apart (x ∷ xs) h = omega (arith, count_apart xs h, bits_apart (p x) (q x) (h x), count_cons p x xs, count_cons q x xs)

  -- where as many pass q as p, what passes q passes p
  pub count_all : (xs : List X) → ((x : X) → p x ≡ true → q x ≡ true) → count_by q xs ≤ count_by p xs → Each (λ x. q x ≡ true → p x ≡ true) xs
  count_all [] h le = tt
  count_all (x ∷ xs) h le =
      let a = count_le xs h in
      let b = bits (p x) (q x) (h x) in
      let cp = count_cons p x xs in
      let cq = count_cons q x xs in
      (bits_back (p x) (q x) (omega arith), count_all xs h (omega arith))

  -- where all are counted, each passes one
  pub count_cover : (xs : List X) → ((x : X) → p x ≡ true → q x ≡ false) → length xs ≤ count_by p xs + count_by q xs → Each (λ x. (p x ≡ true) ⊎ (q x ≡ true)) xs
  count_cover [] h le = tt
  count_cover (x ∷ xs) h le =
      let a = count_apart xs h in
      let b = bits_apart (p x) (q x) (h x) in
      let cp = count_cons p x xs in
      let cq = count_cons q x xs in
      (bits_cover (p x) (q x) (omega arith), count_cover xs h (omega arith))

-- where some element passes, there is at least one
pub any_counts : {X : Type 0} (p : X → Bool) (xs : List X) → list_any p xs ≡ true → 1 ≤ count_by p xs
any_counts p [] e = cc
any_counts p (x ∷ xs) e = rw count_cons (go (p x) (any_counts p xs) e)
  where
    go : (b : Bool) → (list_any p xs ≡ true → 1 ≤ count_by p xs) → (b || list_any p xs) ≡ true → 1 ≤ cond b 1 0 + count_by p xs
    go true rest e = omega arith
    go false rest e = omega (arith, rest e)

-- where none passes, each fails
pub none_pass : {X : Type 0} (p : X → Bool) (xs : List X) → list_any p xs ≡ false → Each (λ x. p x ≡ false) xs
none_pass p [] e = tt
none_pass p (x ∷ xs) e = go (p x) refl e (none_pass p xs)
  where
    go : (b : Bool) → p x ≡ b → (b || list_any p xs) ≡ false → (list_any p xs ≡ false → Each (λ x. p x ≡ false) xs) → (p x ≡ false) × Each (λ x. p x ≡ false) xs
    go true is e rest = cc
    go false is e rest = (is, rest e)

-- ---- a place of two lists put together

-- it is in the first
pub get_front : {X : Type 0} (xs ys : List X) (n : ℕ) (x : X) → slice_get xs n ≡ Some x → slice_get (xs ++ ys) n ≡ Some x
get_front [] ys n x e = cc
get_front (y ∷ xs) ys zero x e = e
get_front (y ∷ xs) ys (suc n) x e = get_front xs ys n x e

-- it is the first of the second
pub get_middle : {X : Type 0} (xs : List X) (y : X) (ys : List X) → slice_get (xs ++ y ∷ ys) (length xs) ≡ Some y
get_middle [] y ys = refl
get_middle (x ∷ xs) y ys = get_middle xs y ys

-- it is in the second
pub get_behind : {X : Type 0} (xs ys : List X) (n : ℕ) → slice_get (xs ++ ys) (n + length xs) ≡ slice_get ys n
get_behind [] ys n = let e : n + 0 ≡ n = omega arith in ap (slice_get ys) e
get_behind (x ∷ xs) ys n = let e : n + suc (length xs) ≡ suc (n + length xs) = omega arith in rw e (get_behind xs ys n)

-- ---- a list written back

-- a whole list written over one as long
pub written_back : {X : Type 0} (n : ℕ) (new old : List X) → length new ≡ n → length old ≡ n → take n (new ++ drop (length new) old) ≡ new
written_back n new old e f = grind (arith, common_steps)
