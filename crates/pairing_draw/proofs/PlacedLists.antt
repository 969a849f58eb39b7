-- Lists with their places, joined and filtered lists, and the places of teams.
use Rattle.std.proofs.Common.{◌≡◌, ℕ, zero, suc, ◌+◌, ◌*◌, ◌≤◌, Bool, true, false, cond, List, [], ◌∷◌, ◌++◌, length, map, Some, slice_get, ◌⊎◌, inl, inr, refl, ap, ◌∙◌, arith, length-append}
use Rattle.std.specs.Prelude.{filter, ◌==◌}
use Rattle.std.specs.List.{enumerate_from, flat_map, AllByRecursion as Each}
use Rattle.std.proofs.lemmas.Bool.{cases_Bool, eqb-true, eq-eqb}
use Rattle.std.proofs.lemmas.List.{length-map}
use Rattle.std.proofs.lemmas.List.FromFn.{length-enumerate_from}
use Rattle.std.proofs.lemmas.List.Sums.{length-filter, count_by-le-length}
use Rattle.team_files.specs.declared.team_id.TeamId.{TeamId}
use Rattle.draw_tables.proofs.Lists.{same_item}
use Rattle.draw_tables.proofs.Numbers.{same_id}
use Rattle.pairing_draw.specs.Encoding.{place_of}

-- ---- lists

-- what holds of each item of two lists holds of each of the joined list
pub each_append : {X : Type 0} (P : X → Type 0) (xs ys : List X) → Each P xs → Each P ys → Each P (xs ++ ys)
each_append P [] ys h g = g
each_append P (x ∷ xs) ys h g = (h.0, each_append P xs ys h.1 g)

-- and the other way round
pub each_split : {X : Type 0} (P : X → Type 0) (xs ys : List X) → Each P (xs ++ ys) → Each P xs × Each P ys
each_split P [] ys h = (tt, h)
each_split P (x ∷ xs) ys h = let rest = each_split P xs ys h.1 in ((h.0, rest.0), rest.1)

-- an item of the first of two joined lists
pub get_left : {X : Type 0} (xs ys : List X) (k : ℕ) (x : X) → slice_get xs k ≡ Some x → slice_get (xs ++ ys) k ≡ Some x
get_left [] ys k x e = cc
get_left (y ∷ xs) ys zero x e = e
get_left (y ∷ xs) ys (suc k) x e = get_left xs ys k x e

-- an item of the second
pub get_right : {X : Type 0} (xs ys : List X) (n k : ℕ) → n ≡ length xs + k → slice_get (xs ++ ys) n ≡ slice_get ys k
get_right [] ys n k e = ap (slice_get ys) (let q : n ≡ k = omega arith in q)
get_right (x ∷ xs) ys zero k e = absurd (omega arith)
get_right (x ∷ xs) ys (suc n) k e = get_right xs ys n k (omega arith)

-- joined pieces of one length
pub get_joined : {A X : Type 0} (piece : A → List X) (n : ℕ) → ((a : A) → length (piece a) ≡ n)
    → (xs : List A) (i w : ℕ) (a : A) (x : X) → slice_get xs i ≡ Some a → slice_get (piece a) w ≡ Some x → slice_get (flat_map piece xs) (i * n + w) ≡ Some x
get_joined piece n size [] i w a x e f = cc
get_joined piece n size (b ∷ xs) zero w a x e f =
    let s = same_item b a e in
    let q : w ≡ zero * n + w = omega arith in
    rw (← q) (get_left (piece b) (flat_map piece xs) w x (ap (λ y. slice_get (piece y) w) s ∙ f))
get_joined piece n size (b ∷ xs) (suc i) w a x e f =
    let s = size b in
    get_right (piece b) (flat_map piece xs) (suc i * n + w) (i * n + w) (omega arith) ∙ get_joined piece n size xs i w a x e f

-- ---- lists with places

module _ {A X : Type 0} (P : X → Type 0) where
  -- what holds of each item with its place that passes a test holds of each that is kept
  pub each_of_places : (f : ℕ × A → X) (p : ℕ × A → Bool) (a : ℕ) (xs : List A)
      → ((j k : ℕ) (x : A) → j ≡ a + k → slice_get xs k ≡ Some x → p (j, x) ≡ true → P (f (j, x)))
      → Each P (map f (filter p (enumerate_from a xs)))
  each_of_places f p a [] h = tt
  each_of_places f p a (x ∷ xs) h = by_cases (p (a, x)) (h a zero x (omega arith) refl) (each_of_places f p (a + 1) xs (λ j k y e g t. h j (suc k) y (omega arith) g t))
    where
      by_cases : (b : Bool) → (b ≡ true → P (f (a, x))) → Each P (map f (filter p (enumerate_from (a + 1) xs))) → Each P (map f (cond b ((a, x) ∷ filter p (enumerate_from (a + 1) xs)) (filter p (enumerate_from (a + 1) xs))))
      by_cases true here rest = (here refl, rest)
      by_cases false here rest = rest

  -- and the other way round
  pub place_of_each : (f : ℕ × A → X) (p : ℕ × A → Bool) (a : ℕ) (xs : List A)
      → Each P (map f (filter p (enumerate_from a xs)))
      → (j k : ℕ) (x : A) → j ≡ a + k → slice_get xs k ≡ Some x → p (j, x) ≡ true → P (f (j, x))
  place_of_each f p a [] h j k x e g t = cc
  place_of_each f p a (y ∷ xs) h j zero x e g t =
      let s : y ≡ x = cc in
      let q : a ≡ j = omega arith in
      let same : ◌≡◌ {A = ℕ × A} (a, y) (j, x) = rw (s, q) refl in
      rw (← same) (by_cases (p (a, y)) (ap p same ∙ t) h)
    where
      by_cases : (b : Bool) → b ≡ true → Each P (map f (cond b ((a, y) ∷ filter p (enumerate_from (a + 1) xs)) (filter p (enumerate_from (a + 1) xs)))) → P (f (a, y))
      by_cases true is each = each.0
      by_cases false is each = cc
  place_of_each f p a (y ∷ xs) h j (suc k) x e g t = place_of_each f p (a + 1) xs (by_cases (p (a, y)) h) j k x (omega arith) g t
    where
      by_cases : (b : Bool) → Each P (map f (cond b ((a, y) ∷ filter p (enumerate_from (a + 1) xs)) (filter p (enumerate_from (a + 1) xs)))) → Each P (map f (filter p (enumerate_from (a + 1) xs)))
      by_cases true each = each.1
      by_cases false each = each

  -- what holds of each item of the lists that items with their places give holds of each joined one
  pub each_joined : (f : ℕ × A → List X) (a : ℕ) (xs : List A)
      → ((j k : ℕ) (x : A) → j ≡ a + k → slice_get xs k ≡ Some x → Each P (f (j, x)))
      → Each P (flat_map f (enumerate_from a xs))
  each_joined f a [] h = tt
  each_joined f a (x ∷ xs) h = each_append P (f (a, x)) (flat_map f (enumerate_from (a + 1) xs)) (h a zero x (omega arith) refl) (each_joined f (a + 1) xs (λ j k y e g. h j (suc k) y (omega arith) g))

  -- and the other way round
  pub joined_each : (f : ℕ × A → List X) (a : ℕ) (xs : List A)
      → Each P (flat_map f (enumerate_from a xs))
      → (j k : ℕ) (x : A) → j ≡ a + k → slice_get xs k ≡ Some x → Each P (f (j, x))
  joined_each f a [] h j k x e g = cc
  joined_each f a (y ∷ xs) h j zero x e g =
      let s : y ≡ x = cc in
      let q : a ≡ j = omega arith in
      let same : ◌≡◌ {A = ℕ × A} (a, y) (j, x) = rw (s, q) refl in
      rw (← same) (each_split P (f (a, y)) (flat_map f (enumerate_from (a + 1) xs)) h).0
  joined_each f a (y ∷ xs) h j (suc k) x e g = joined_each f (a + 1) xs (each_split P (f (a, y)) (flat_map f (enumerate_from (a + 1) xs)) h).1 j k x (omega arith) g

-- ---- lengths

-- no more pass a test than there are
pub few_of_places : {A X : Type 0} (f : ℕ × A → X) (p : ℕ × A → Bool) (xs : List A) → length (map f (filter p (enumerate_from 0 xs))) ≤ length xs
few_of_places f p xs = omega (arith, length-map (filter p (enumerate_from 0 xs)) f, length-filter p (enumerate_from 0 xs), count_by-le-length p (enumerate_from 0 xs), length-enumerate_from 0 xs)

-- lists of at most n items for each
pub few_joined : {A X : Type 0} (f : ℕ × A → List X) (n : ℕ) → ((a : ℕ × A) → length (f a) ≤ n) → (a : ℕ) (xs : List A) → length (flat_map f (enumerate_from a xs)) ≤ length xs * n
few_joined f n h a [] = omega arith
few_joined f n h a (x ∷ xs) =
    let rest = few_joined f n h (a + 1) xs in
    let here = h (a, x) in
    let size = length-append (f (a, x)) (flat_map f (enumerate_from (a + 1) xs)) in
    omega arith

-- ---- the places of teams

-- a team of the list stands at its place
pub place_found : (t : TeamId) (xs : List TeamId) (i : ℕ) → slice_get xs i ≡ Some t → slice_get xs (place_of t xs) ≡ Some t
place_found t [] i e = cc
place_found t (x ∷ xs) i e = by_cases (cases_Bool (x.0 == t.0)) i e (place_found t xs)
  where
    by_cases : ((x.0 == t.0) ≡ true) ⊎ ((x.0 == t.0) ≡ false) → (i : ℕ) → slice_get (x ∷ xs) i ≡ Some t → ((i : ℕ) → slice_get xs i ≡ Some t → slice_get xs (place_of t xs) ≡ Some t) → slice_get (x ∷ xs) (place_of t (x ∷ xs)) ≡ Some t
    by_cases (inl is) i e rest = rw is (ap Some (same_id x t (eqb-true x.0 t.0 is)))
    by_cases (inr isnt) zero e rest = let s = eq-eqb x.0 t.0 (ap (λ y. y.0) (same_item x t e)) in cc
    by_cases (inr isnt) (suc i) e rest = let q : 1 + place_of t xs ≡ suc (place_of t xs) = omega arith in rw (isnt, q) (rest i e)
