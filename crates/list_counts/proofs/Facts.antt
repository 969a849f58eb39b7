-- Facts of each entry: of lists put together, of images, and of lists over one or two others.
use Rattle.std.proofs.Common.{◌≡◌, ℕ, zero, suc, ◌+◌, Bool, true, false, cond, List, [], ◌∷◌, ◌++◌, map, Some, slice_get, arith, refl, ap, ◌∙◌, subst}
use Rattle.std.specs.Prelude.{filter}
use Rattle.std.specs.List.{enumerate_from, flat_map, AllByRecursion as Each}
use Rattle.std.proofs.lemmas.Option.{same_Some}
use Rattle.list_counts.proofs.Entries.{Among, later}

module _ {X : Type 0} (P : X → Type 0) where
  -- ---- one list

  pub each_from : (xs : List X) → ((k : ℕ) (x : X) → slice_get xs k ≡ Some x → P x) → Each P xs
  each_from [] h = tt
  each_from (x ∷ xs) h = (h 0 x refl, each_from xs (λ k y e. h (suc k) y e))

  pub each_at : (xs : List X) → Each P xs → (k : ℕ) (x : X) → slice_get xs k ≡ Some x → P x
  each_at [] h k x e = cc
  each_at (y ∷ xs) h zero x e = subst P (same_Some y x e) h.0
  each_at (y ∷ xs) h (suc k) x e = each_at xs h.1 k x e

  -- ---- two lists put together

  pub each_append : (xs ys : List X) → Each P xs → Each P ys → Each P (xs ++ ys)
  each_append [] ys h g = g
  each_append (x ∷ xs) ys h g = (h.0, each_append xs ys h.1 g)

  pub each_split : (xs ys : List X) → Each P (xs ++ ys) → Each P xs × Each P ys
  each_split [] ys h = (tt, h)
  each_split (x ∷ xs) ys h = let rest = each_split xs ys h.1 in ((h.0, rest.0), rest.1)

  -- ---- images

  pub mapped_from : {A : Type 0} (f : A → X) (zs : List A) → ((k : ℕ) (a : A) → slice_get zs k ≡ Some a → P (f a)) → Each P (map f zs)
  mapped_from f [] h = tt
  mapped_from f (a ∷ zs) h = (h 0 a refl, mapped_from f zs (λ k b e. h (suc k) b e))

  pub mapped_at : {A : Type 0} (f : A → X) (zs : List A) → Each P (map f zs) → (k : ℕ) (a : A) → slice_get zs k ≡ Some a → P (f a)
  mapped_at f [] h k a e = cc
  mapped_at f (b ∷ zs) h zero a e = subst (λ c. P (f c)) (same_Some b a e) h.0
  mapped_at f (b ∷ zs) h (suc k) a e = mapped_at f zs h.1 k a e

  -- ---- an image for each entry of one list and each of another

  module _ {A B : Type 0} (f : A → B → X) (bs : List B) where
    pub nested_from : (zs : List A) → ((a : A) (b : B) → Among zs a → Among bs b → P (f a b)) → Each P (flat_map (λ a. map (f a) bs) zs)
    nested_from [] h = tt
    nested_from (a ∷ zs) h =
        each_append (map (f a) bs) (flat_map (λ c. map (f c) bs) zs)
        (mapped_from (f a) bs (λ k b e. h a b (0, refl) (k, e)))
        (nested_from zs (λ c b m n. h c b (later a zs c m) n))

    pub nested_at : (zs : List A) → Each P (flat_map (λ a. map (f a) bs) zs) → (k : ℕ) (a : A) → slice_get zs k ≡ Some a → (j : ℕ) (b : B) → slice_get bs j ≡ Some b → P (f a b)
    nested_at [] h k a e j b g = cc
    nested_at (c ∷ zs) h zero a e j b g =
        let parts = each_split (map (f c) bs) (flat_map (λ a. map (f a) bs) zs) h in
        subst (λ x. P (f x b)) (same_Some c a e) (mapped_at (f c) bs parts.0 j b g)
    nested_at (c ∷ zs) h (suc k) a e j b g =
        let parts = each_split (map (f c) bs) (flat_map (λ a. map (f a) bs) zs) h in
        nested_at zs parts.1 k a e j b g

  module _ {A : Type 0} where
    -- ---- entries with their places

    -- of those that pass a test
    pub each_of_places : (f : ℕ × A → X) (p : ℕ × A → Bool) (a : ℕ) (xs : List A)
        → ((j k : ℕ) (x : A) → j ≡ a + k → slice_get xs k ≡ Some x → p (j, x) ≡ true → P (f (j, x)))
        → Each P (map f (filter p (enumerate_from a xs)))
    each_of_places f p a [] h = tt
    each_of_places f p a (x ∷ xs) h = by_cases (p (a, x)) (h a zero x (omega arith) refl) (each_of_places f p (a + 1) xs (λ j k y e g t. h j (suc k) y (omega arith) g t))
      where
        by_cases : (b : Bool) → (b ≡ true → P (f (a, x))) → Each P (map f (filter p (enumerate_from (a + 1) xs)))
            → Each P (map f (cond b ((a, x) ∷ filter p (enumerate_from (a + 1) xs)) (filter p (enumerate_from (a + 1) xs))))
        by_cases true here rest = (here refl, rest)
        by_cases false here rest = rest

    pub place_of_each : (f : ℕ × A → X) (p : ℕ × A → Bool) (a : ℕ) (xs : List A)
        → Each P (map f (filter p (enumerate_from a xs)))
        → (j k : ℕ) (x : A) → j ≡ a + k → slice_get xs k ≡ Some x → p (j, x) ≡ true → P (f (j, x))
    place_of_each f p a [] h j k x e g t = cc
    place_of_each f p a (y ∷ xs) h j zero x e g t =
        let s = same_Some y x g in
        let q : a ≡ j = omega arith in
        let same : ◌≡◌ {A = ℕ × A} (a, y) (j, x) = rw (s, q) refl in
        rw (← same) (by_cases (p (a, y)) (ap p same ∙ t) h)
      where
        by_cases : (b : Bool) → b ≡ true → Each P (map f (cond b ((a, y) ∷ filter p (enumerate_from (a + 1) xs)) (filter p (enumerate_from (a + 1) xs)))) → P (f (a, y))
        by_cases true is each = each.0
        by_cases false is each = cc
    place_of_each f p a (y ∷ xs) h j (suc k) x e g t = place_of_each f p (a + 1) xs (by_cases (p (a, y)) h) j k x (omega arith) g t
      where
        by_cases : (b : Bool) → Each P (map f (cond b ((a, y) ∷ filter p (enumerate_from (a + 1) xs)) (filter p (enumerate_from (a + 1) xs)))) → Each P (map f (filter p (enumerate_from (a + 1) xs)))
        by_cases true each = each.1
        by_cases false each = each

    -- of the lists that they give, joined
    pub each_joined : (f : ℕ × A → List X) (a : ℕ) (xs : List A)
        → ((j k : ℕ) (x : A) → j ≡ a + k → slice_get xs k ≡ Some x → Each P (f (j, x)))
        → Each P (flat_map f (enumerate_from a xs))
    each_joined f a [] h = tt
    each_joined f a (x ∷ xs) h = each_append (f (a, x)) (flat_map f (enumerate_from (a + 1) xs)) (h a zero x (omega arith) refl) (each_joined f (a + 1) xs (λ j k y e g. h j (suc k) y (omega arith) g))

    pub joined_each : (f : ℕ × A → List X) (a : ℕ) (xs : List A)
        → Each P (flat_map f (enumerate_from a xs))
        → (j k : ℕ) (x : A) → j ≡ a + k → slice_get xs k ≡ Some x → Each P (f (j, x))
    joined_each f a [] h j k x e g = cc
    joined_each f a (y ∷ xs) h j zero x e g =
        let s = same_Some y x g in
        let q : a ≡ j = omega arith in
        let same : ◌≡◌ {A = ℕ × A} (a, y) (j, x) = rw (s, q) refl in
        rw (← same) (each_split (f (a, y)) (flat_map f (enumerate_from (a + 1) xs)) h).0
    joined_each f a (y ∷ xs) h j (suc k) x e g = joined_each f (a + 1) xs (each_split (f (a, y)) (flat_map f (enumerate_from (a + 1) xs)) h).1 j k x (omega arith) g
