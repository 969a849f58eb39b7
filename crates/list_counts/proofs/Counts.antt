-- How many entries pass a test.
use Rattle.std.proofs.Common.{◌≡◌, ℕ, zero, suc, ◌+◌, Bool, true, false, cond, not, List, [], ◌∷◌, ◌++◌, length, map, Some, slice_get, arith, refl, sym, ap, ◌∙◌}
use Rattle.std.specs.Prelude.{count_by, filter, find, ◌&&◌}
use Rattle.std.specs.List.{range_with_len}
use Rattle.std.proofs.lemmas.Option.{same_Some}
use Rattle.std.proofs.lemmas.List.Sums.{sum_by-cons, sum_by-append}
use Rattle.list_counts.proofs.Entries.{Among, later}

module _ {X : Type 0} where
  -- ---- one entry more

  pub count_cons : (p : X → Bool) (x : X) (xs : List X) → count_by p (x ∷ xs) ≡ cond (p x) 1 0 + count_by p xs
  count_cons p x xs = sum_by-cons (λ x. cond (p x) 1 0) x xs

  pub count_yes : (p : X → Bool) (x : X) (xs : List X) → p x ≡ true → count_by p (x ∷ xs) ≡ 1 + count_by p xs
  count_yes p x xs e = count_cons p x xs ∙ ap (λ b. cond b 1 0 + count_by p xs) e

  pub count_no : (p : X → Bool) (x : X) (xs : List X) → p x ≡ false → count_by p (x ∷ xs) ≡ count_by p xs
  count_no p x xs e = let h = count_cons p x xs ∙ ap (λ b. cond b 1 0 + count_by p xs) e in h ∙ omega arith

  pub count_append : (p : X → Bool) (xs ys : List X) → count_by p (xs ++ ys) ≡ count_by p xs + count_by p ys
  count_append p xs ys = sum_by-append (λ x. cond (p x) 1 0) xs ys

  -- ---- two tests

  -- that agree on the list
  pub count_same : (p q : X → Bool) (xs : List X) → ((k : ℕ) (x : X) → slice_get xs k ≡ Some x → p x ≡ q x) → count_by p xs ≡ count_by q xs
  count_same p q [] h = refl
  count_same p q (x ∷ xs) h =
      let rest = count_same p q xs (λ k y e. h (suc k) y e) in
      count_cons p x xs ∙ rw (h 0 x refl, rest) (sym (count_cons q x xs))

  -- what passes is one of those with the mark, or one of the others
  pub count_split : (mark p : X → Bool) (xs : List X) → count_by p xs ≡ count_by (λ x. mark x && p x) xs + count_by p (filter (λ x. not (mark x)) xs)
  count_split mark p [] = refl
  count_split mark p (x ∷ xs) = go (mark x) refl (count_split mark p xs)
    where
      go : (b : Bool) → mark x ≡ b → count_by p xs ≡ count_by (λ x. mark x && p x) xs + count_by p (filter (λ x. not (mark x)) xs)
          → count_by p (x ∷ xs) ≡ count_by (λ x. mark x && p x) (x ∷ xs) + count_by p (cond (not b) (x ∷ filter (λ x. not (mark x)) xs) (filter (λ x. not (mark x)) xs))
      go true e rest =
          let here : (mark x && p x) ≡ p x = ap (λ b. b && p x) e in
          let a = count_cons p x xs in
          let c = count_cons (λ x. mark x && p x) x xs ∙ ap (λ b. cond b 1 0 + count_by (λ x. mark x && p x) xs) here in
          omega arith
      go false e rest =
          let here : (mark x && p x) ≡ false = ap (λ b. b && p x) e in
          let a = count_cons p x xs in
          let b = count_cons p x (filter (λ x. not (mark x)) xs) in
          let c = count_no (λ x. mark x && p x) x xs here in
          omega arith

  -- among those that passed another test before
  pub count_filter : (m q : X → Bool) (xs : List X) → count_by q (filter m xs) ≡ count_by (λ x. m x && q x) xs
  count_filter m q [] = refl
  count_filter m q (x ∷ xs) = go (m x) refl (count_filter m q xs)
    where
      go : (b : Bool) → m x ≡ b → count_by q (filter m xs) ≡ count_by (λ x. m x && q x) xs → count_by q (cond b (x ∷ filter m xs) (filter m xs)) ≡ count_by (λ x. m x && q x) (x ∷ xs)
      go true e rest =
          let a = count_cons q x (filter m xs) in
          let c = count_cons (λ x. m x && q x) x xs in
          let s : ◌≡◌ {A = ℕ} (cond (m x && q x) 1 0) (cond (q x) 1 0) = ap (λ b. cond (b && q x) 1 0) e in
          omega arith
      go false e rest =
          let c = count_cons (λ x. m x && q x) x xs in
          let s : ◌≡◌ {A = ℕ} (cond (m x && q x) 1 0) 0 = ap (λ b. cond (b && q x) 1 0) e in
          omega arith

  -- of images
  pub count_map : {Y : Type 0} (f : Y → X) (p : X → Bool) (ys : List Y) → count_by p (map f ys) ≡ count_by (λ y. p (f y)) ys
  count_map f p [] = refl
  count_map f p (y ∷ ys) =
      let rest = count_map f p ys in
      let a = count_cons p (f y) (map f ys) in
      let b = sum_by-cons (λ y. cond (p (f y)) 1 0) y ys in
      omega arith

  -- entries counted by their places, where these count from a
  pub count_by_places : (p : X → Bool) (q : ℕ → Bool) (xs : List X) (a : ℕ)
      → ((j k : ℕ) (x : X) → j ≡ a + k → slice_get xs k ≡ Some x → p x ≡ q j)
      → count_by p xs ≡ count_by q (range_with_len a (length xs))
  count_by_places p q [] a h = refl
  count_by_places p q (x ∷ xs) a h =
      let here : p x ≡ q a = h a 0 x (omega arith) refl in
      let rest = count_by_places p q xs (a + 1) (λ j k y e f. h j (suc k) y (omega arith) f) in
      let bit : ◌≡◌ {A = ℕ} (cond (p x) 1 0) (cond (q a) 1 0) = ap (λ b. cond b 1 0) here in
      let left = count_cons p x xs in
      let right = sum_by-cons (λ j. cond (q j) 1 0) a (range_with_len (a + 1) (length xs)) in
      omega arith

  -- ---- all or none

  pub count_all : (xs : List X) → count_by (λ x. true) xs ≡ length xs
  count_all [] = refl
  count_all (x ∷ xs) = let rest = count_all xs in let c = count_yes (λ x. true) x xs refl in omega arith

  pub count_none : (p : X → Bool) (xs : List X) → ((k : ℕ) (x : X) → slice_get xs k ≡ Some x → p x ≡ false) → count_by p xs ≡ 0
  count_none p [] h = refl
  count_none p (x ∷ xs) h = count_no p x xs (h 0 x refl) ∙ count_none p xs (λ k y e. h (suc k) y e)

  pub none_passes : (p : X → Bool) (xs : List X) → count_by p xs ≡ 0 → (k : ℕ) (x : X) → slice_get xs k ≡ Some x → p x ≡ true → ⊥
  none_passes p [] h k x e t = cc
  none_passes p (y ∷ ys) h k x e t = go (p y) refl k e (λ z i f. none_passes p ys z i x f t)
    where
      go : (b : Bool) → p y ≡ b → (k : ℕ) → slice_get (y ∷ ys) k ≡ Some x → (count_by p ys ≡ 0 → (i : ℕ) → slice_get ys i ≡ Some x → ⊥) → ⊥
      go true is k e rest = let c = count_yes p y ys is in absurd (omega arith)
      go false is zero e rest = let q : p y ≡ true = ap p (same_Some y x e) ∙ t in cc
      go false is (suc k) e rest = rest (sym (count_no p y ys is) ∙ h) k e

  -- ---- exactly one

  -- where one is counted, all that pass stand at one place
  pub one_place : (p : X → Bool) (xs : List X) → count_by p xs ≡ 1 → (i j : ℕ) (x y : X) → slice_get xs i ≡ Some x → p x ≡ true → slice_get xs j ≡ Some y → p y ≡ true → i ≡ j
  one_place p [] h i j x y e t f u = cc
  one_place p (z ∷ xs) h i j x y e t f u = go (p z) refl i j e f (λ n i j e f. one_place p xs n i j x y e t f u)
    where
      go : (b : Bool) → p z ≡ b → (i j : ℕ) → slice_get (z ∷ xs) i ≡ Some x → slice_get (z ∷ xs) j ≡ Some y
          → (count_by p xs ≡ 1 → (i j : ℕ) → slice_get xs i ≡ Some x → slice_get xs j ≡ Some y → i ≡ j) → i ≡ j
      go true is zero zero e f rest = refl
      go true is zero (suc j) e f rest = let c = count_yes p z xs is in absurd (none_passes p xs (omega arith) j y f u)
      go true is (suc i) j e f rest = let c = count_yes p z xs is in absurd (none_passes p xs (omega arith) i x e t)
      go false is zero j e f rest = let q : p z ≡ true = ap p (same_Some z x e) ∙ t in cc
      go false is (suc i) zero e f rest = let q : p z ≡ true = ap p (same_Some z y f) ∙ u in cc
      go false is (suc i) (suc j) e f rest = ap suc (rest (sym (count_no p z xs is) ∙ h) i j e f)

  -- and it is the first that is found
  pub found_one : (p : X → Bool) (xs : List X) → count_by p xs ≡ 1 → (x : X) × (find p xs ≡ Some x) × Among xs x × (p x ≡ true)
  found_one p [] h = absurd (omega arith)
  found_one p (z ∷ xs) h = go (p z) refl (found_one p xs)
    where
      go : (b : Bool) → p z ≡ b → (count_by p xs ≡ 1 → (x : X) × (find p xs ≡ Some x) × Among xs x × (p x ≡ true))
          → (x : X) × (cond b (Some z) (find p xs) ≡ Some x) × Among (z ∷ xs) x × (p x ≡ true)
      go true is rest = (z, refl, (0, refl), is)
      go false is rest = let r = rest (sym (count_no p z xs is) ∙ h) in (r.0, r.1, later z xs r.0 r.2, r.3)
