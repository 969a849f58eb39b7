-- Items of lists by their places.
use Rattle.std.proofs.Common.{◌≡◌, ℕ, zero, suc, ◌+◌, ◌-◌, ◌<◌, ◌≤◌, ◌∙◌, Bool, true, false, List, [], ◌∷◌, ◌++◌, append_assoc, length, map, Option, Some, slice_get, arith, refl, ap, sym, subst}
use Rattle.std.specs.Prelude.{filter, find, ◌||◌, if◌then◌else◌}
use Rattle.std.specs.List.{All, AllByRecursion as Each, list_any, range_with_len}
use Rattle.std.proofs.lemmas.Bool.{or_parts}
use Rattle.std.proofs.lemmas.List.Elements.{All-head, All-tail}
use Rattle.std.specs.Option.{option_map}
use Rattle.std.proofs.lemmas.Option.{slice_get-map}
use Rattle.draw_tables.specs.Lists.{IsAmong}

-- what stands at one place is one item
pub same_item : {A : Type 0} (x y : A) → Some x ≡ Some y → x ≡ y
same_item x y e = cc

-- each place of a list has an item
pub item_at : {A : Type 0} (xs : List A) (k : ℕ) → k < length xs → (x : A) × (slice_get xs k ≡ Some x)
item_at [] k lt = absurd (omega arith)
item_at (x ∷ xs) zero lt = (x, refl)
item_at (x ∷ xs) (suc k) lt = item_at xs k (omega arith)

-- the empty list has no item
pub none_among : {A : Type 0} (x : A) → ¬ IsAmong [] x
none_among x h = at h.0 h.1
  where
    at : (k : ℕ) → slice_get [] k ≡ Some x → ⊥
    at k e = cc

-- what stands at a place of the images
pub map_at : {A B : Type 0} (f : A → B) (xs : List A) (k : ℕ) (x : A) → slice_get xs k ≡ Some x → slice_get (map f xs) k ≡ Some (f x)
map_at f xs k x e = slice_get-map f xs k ∙ ap (option_map f) e

-- ---- a fact of each item

-- a fact of each item is one of an item that stands in the list
pub each_among : {A : Type 0} (P : A → Type 0) (xs : List A) → Each P xs → (x : A) → IsAmong xs x → P x
each_among {A = A} P xs h x among = at xs h among.0 among.1
  where
    at : (ys : List A) → Each P ys → (k : ℕ) → slice_get ys k ≡ Some x → P x
    at [] h k e = cc
    at (y ∷ ys) h zero e = let same : y ≡ x = same_item y x e in subst P same h.0
    at (y ∷ ys) h (suc k) e = at ys h.1 k e

-- and the other way round
pub each_from : {A : Type 0} (P : A → Type 0) (xs : List A) → ((x : A) → IsAmong xs x → P x) → Each P xs
each_from P [] h = tt
each_from P (x ∷ xs) h = (h x (0, refl), each_from P xs (λ y among. h y (suc among.0, among.1)))

-- a fact of all items is one of the item at a place
pub all_at : {A : Type 0} (P : A → Type 0) (xs : List A) → All P xs → (k : ℕ) (x : A) → slice_get xs k ≡ Some x → P x
all_at P [] h k x e = cc
all_at P (y ∷ ys) h zero x e = let same : y ≡ x = same_item y x e in subst P same (All-head P y ys h)
all_at P (y ∷ ys) h (suc k) x e = all_at P ys (All-tail P y ys h) k x e

-- what a filter keeps has the fact that each item has
pub each_kept : {A : Type 0} (P : A → Type 0) (p : A → Bool) (xs : List A) → Each P xs → Each P (filter p xs)
each_kept P p [] h = tt
each_kept {A = A} P p (x ∷ xs) h = put (p x) (each_kept P p xs h.1)
  where
    put : (b : Bool) → Each P (filter p xs) → Each P (if b then x ∷ filter p xs else filter p xs)
    put true rest = (h.0, rest)
    put false rest = rest

-- ---- ranges

-- the numbers of a range
pub in_range : (a n k x : ℕ) → slice_get (range_with_len a n) k ≡ Some x → (a ≤ x) × (x < a + n)
in_range a zero k x e = cc
in_range a (suc n) zero x e = let same : a ≡ x = same_item a x e in (omega arith, omega arith)
in_range a (suc n) (suc k) x e = let later = in_range (a + 1) n k x e in let low = later.0 in let high = later.1 in (omega arith, omega arith)

-- each of them stands in it
pub range_at : (a n k : ℕ) → k < n → slice_get (range_with_len a n) k ≡ Some (a + k)
range_at a zero k lt = absurd (omega arith)
range_at a (suc n) zero lt = ap Some (let e : a ≡ a + 0 = omega arith in e)
range_at a (suc n) (suc k) lt = range_at (a + 1) n k (omega arith) ∙ ap Some (let e : a + 1 + k ≡ a + suc k = omega arith in e)

pub range_has : (a n x : ℕ) → a ≤ x → x < a + n → IsAmong (range_with_len a n) x
range_has a n x low high = let e : a + (x - a) ≡ x = omega arith in (x - a, range_at a n (x - a) (omega arith) ∙ ap Some e)

-- ---- the first that passes

-- what is found is an item that passes
pub found : {A : Type 0} (p : A → Bool) (xs : List A) (x : A) → find p xs ≡ Some x → IsAmong xs x × (p x ≡ true)
found p [] x e = cc
found {A = A} p (y ∷ xs) x e = go (p y) refl e (found p xs x)
  where
    go : (b : Bool) → p y ≡ b → (if b then Some y else find p xs) ≡ Some x → (find p xs ≡ Some x → IsAmong xs x × (p x ≡ true)) → IsAmong (y ∷ xs) x × (p x ≡ true)
    go true is f rest = let same : y ≡ x = same_item y x f in ((0, f), ap p (sym same) ∙ is)
    go false is f rest = let h = rest f in ((suc h.0.0, h.0.1), h.1)

-- ---- whether some item passes

-- where none is kept none passes
pub none_passes : {A : Type 0} (p : A → Bool) (xs : List A) → filter p xs ≡ [] → list_any p xs ≡ false
none_passes p [] e = refl
none_passes {A = A} p (x ∷ xs) e = go (p x) e (none_passes p xs)
  where
    go : (b : Bool) → (if b then x ∷ filter p xs else filter p xs) ≡ [] → (filter p xs ≡ [] → list_any p xs ≡ false) → (b || list_any p xs) ≡ false
    go true f rest = cc
    go false f rest = rest f

-- where none passes none is kept
pub none_kept : {A : Type 0} (p : A → Bool) (xs : List A) → list_any p xs ≡ false → filter p xs ≡ []
none_kept p [] e = refl
none_kept {A = A} p (x ∷ xs) e = go (p x) e (none_kept p xs)
  where
    go : (b : Bool) → (b || list_any p xs) ≡ false → (list_any p xs ≡ false → filter p xs ≡ []) → (if b then x ∷ filter p xs else filter p xs) ≡ []
    go true f rest = cc
    go false f rest = rest f

-- some item passes
pub one_passes : {A : Type 0} (p : A → Bool) (xs : List A) → list_any p xs ≡ true → (x : A) × IsAmong xs x × (p x ≡ true)
one_passes p [] e = cc
one_passes {A = A} p (x ∷ xs) e = go (p x) refl e (one_passes p xs)
  where
    go : (b : Bool) → p x ≡ b → (b || list_any p xs) ≡ true → (list_any p xs ≡ true → (y : A) × IsAmong xs y × (p y ≡ true)) → (y : A) × IsAmong (x ∷ xs) y × (p y ≡ true)
    go true is f rest = (x, (0, refl), is)
    go false is f rest = let h = rest f in (h.0, (suc h.1.0, h.1.1), h.2)

-- no item passes
pub fails_there : {A : Type 0} (p : A → Bool) (xs : List A) → list_any p xs ≡ false → (x : A) → IsAmong xs x → p x ≡ false
fails_there {A = A} p xs e x among = at xs e among.0 among.1
  where
    at : (ys : List A) → list_any p ys ≡ false → (k : ℕ) → slice_get ys k ≡ Some x → p x ≡ false
    at [] f k h = cc
    at (y ∷ ys) f zero h = let same : y ≡ x = same_item y x h in ap p (sym same) ∙ (or_parts (p y) (list_any p ys) f).0
    at (y ∷ ys) f (suc k) h = at ys (or_parts (p y) (list_any p ys) f).1 k h

-- a number that fails is passed over
pub find_next : (p : ℕ → Bool) (i n : ℕ) (whole : Option ℕ) → i < n → p (i + 1) ≡ false → find p (range_with_len (i + 1) (n - i)) ≡ whole → find p (range_with_len (i + 1 + 1) (n - (i + 1))) ≡ whole
find_next p i n whole lt fails so_far =
    let left : n - i ≡ suc (n - (i + 1)) = omega arith in
    let here : find p ((i + 1) ∷ range_with_len (i + 1 + 1) (n - (i + 1))) ≡ whole = rw left at so_far in
    sym (ap (λ b. if b then Some (i + 1) else find p (range_with_len (i + 1 + 1) (n - (i + 1)))) fails) ∙ here

-- ---- items one after the other

module _ {A : Type 0} (f : ℕ → A) (p : ℕ → Bool) (i n : ℕ) (items whole : List A) (lt : i < n) where
  -- a number that passes is taken
  pub number_taken : (new : List A) → p i ≡ true → new ≡ items ++ f i ∷ [] → items ++ map f (filter p (range_with_len i (n - i))) ≡ whole
      → new ++ map f (filter p (range_with_len (i + 1) (n - (i + 1)))) ≡ whole
  number_taken new holds is so_far =
      let left : n - i ≡ suc (n - (i + 1)) = omega arith in
      let here : items ++ map f (filter p (i ∷ range_with_len (i + 1) (n - (i + 1)))) ≡ whole = rw left at so_far in
      rw (is, append_assoc) (sym (ap (λ b. items ++ map f (if b then i ∷ filter p (range_with_len (i + 1) (n - (i + 1))) else filter p (range_with_len (i + 1) (n - (i + 1))))) holds) ∙ here)

  -- another is passed over
  pub number_passed : p i ≡ false → items ++ map f (filter p (range_with_len i (n - i))) ≡ whole → items ++ map f (filter p (range_with_len (i + 1) (n - (i + 1)))) ≡ whole
  number_passed fails so_far =
      let left : n - i ≡ suc (n - (i + 1)) = omega arith in
      let here : items ++ map f (filter p (i ∷ range_with_len (i + 1) (n - (i + 1)))) ≡ whole = rw left at so_far in
      sym (ap (λ b. items ++ map f (if b then i ∷ filter p (range_with_len (i + 1) (n - (i + 1))) else filter p (range_with_len (i + 1) (n - (i + 1))))) fails) ∙ here

-- a number of a range is taken
pub range_taken : {A : Type 0} (f : ℕ → A) (a i n : ℕ) (items new whole : List A) → i < n → new ≡ items ++ f (i + a) ∷ [] → items ++ map f (range_with_len (i + a) (n - i)) ≡ whole
    → new ++ map f (range_with_len (i + 1 + a) (n - (i + 1))) ≡ whole
range_taken f a i n items new whole lt is so_far =
    let left : n - i ≡ suc (n - (i + 1)) = omega arith in
    let next : i + a + 1 ≡ i + 1 + a = omega arith in
    let here : items ++ f (i + a) ∷ map f (range_with_len (i + a + 1) (n - (i + 1))) ≡ whole = rw left at so_far in
    rw (is, append_assoc, ← next) here

-- what stands among images is the image of an item
pub map_among : {A B : Type 0} (f : A → B) (xs : List A) (y : B) → IsAmong (map f xs) y → (x : A) × IsAmong xs x × (f x ≡ y)
map_among {A = A} f xs y among = at xs among.0 among.1
  where
    at : (zs : List A) (k : ℕ) → slice_get (map f zs) k ≡ Some y → (x : A) × IsAmong zs x × (f x ≡ y)
    at [] k e = cc
    at (z ∷ zs) zero e = (z, (0, refl), same_item (f z) y e)
    at (z ∷ zs) (suc k) e = let h = at zs k e in (h.0, (suc h.1.0, h.1.1), h.2)
