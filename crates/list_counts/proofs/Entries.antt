-- The entries of lists, by their places.
use Rattle.std.proofs.Common.{◌≡◌, ℕ, zero, suc, ◌+◌, ◌*◌, ◌<◌, ◌≤◌, ◌⊎◌, inl, inr, Bool, true, false, cond, List, [], ◌∷◌, ◌++◌, length, map, Some, slice_get, arith, refl, sym, ap, ◌∙◌, length-append}
use Rattle.std.specs.Prelude.{filter, find}
use Rattle.std.specs.Option.{option_map}
use Rattle.std.specs.List.{flat_map, range_with_len}
use Rattle.std.proofs.lemmas.Bool.{cases_order}
use Rattle.std.proofs.lemmas.List.{length-map}
use Rattle.std.proofs.lemmas.Option.{same_Some, slice_get-map}

module _ {X : Type 0} where
  -- the list has the entry
  abbrev pub Among : List X → X → Type 0
  Among xs x = (k : ℕ) × (slice_get xs k ≡ Some x)

  -- one place later
  abbrev pub later : (y : X) (xs : List X) (x : X) → Among xs x → Among (y ∷ xs) x
  later y xs x h = (suc h.0, h.1)

  -- each place has an entry
  pub entry_at : (xs : List X) (k : ℕ) → k < length xs → (x : X) × (slice_get xs k ≡ Some x)
  entry_at [] k lt = absurd (omega arith)
  entry_at (x ∷ xs) zero lt = (x, refl)
  entry_at (x ∷ xs) (suc k) lt = entry_at xs k (omega arith)

  -- ---- two lists put together

  pub get_left : (xs ys : List X) (k : ℕ) (x : X) → slice_get xs k ≡ Some x → slice_get (xs ++ ys) k ≡ Some x
  get_left [] ys k x e = cc
  get_left (y ∷ xs) ys zero x e = e
  get_left (y ∷ xs) ys (suc k) x e = get_left xs ys k x e

  pub get_right : (xs ys : List X) (n k : ℕ) → n ≡ length xs + k → slice_get (xs ++ ys) n ≡ slice_get ys k
  get_right [] ys n k e = ap (slice_get ys) (let q : n ≡ k = omega arith in q)
  get_right (x ∷ xs) ys zero k e = absurd (omega arith)
  get_right (x ∷ xs) ys (suc n) k e = get_right xs ys n k (omega arith)

  pub append_among : (xs ys : List X) (k : ℕ) (x : X) → slice_get (xs ++ ys) k ≡ Some x → Among xs x ⊎ Among ys x
  append_among [] ys k x e = inr (k, e)
  append_among (z ∷ xs) ys zero x e = inl (0, e)
  append_among (z ∷ xs) ys (suc k) x e = up (append_among xs ys k x e)
    where
      up : Among xs x ⊎ Among ys x → Among (z ∷ xs) x ⊎ Among ys x
      up (inl h) = inl (later z xs x h)
      up (inr h) = inr h

  -- one entry more
  pub push_at : (xs : List X) (y : X) (k : ℕ) (x : X) → slice_get (xs ++ y ∷ []) k ≡ Some x → (slice_get xs k ≡ Some x) ⊎ ((k ≡ length xs) × (y ≡ x))
  push_at [] y zero x e = inr (refl, same_Some y x e)
  push_at [] y (suc k) x e = cc
  push_at (z ∷ xs) y zero x e = inl e
  push_at (z ∷ xs) y (suc k) x e = up (push_at xs y k x e)
    where
      up : (slice_get xs k ≡ Some x) ⊎ ((k ≡ length xs) × (y ≡ x)) → (slice_get xs k ≡ Some x) ⊎ ((suc k ≡ suc (length xs)) × (y ≡ x))
      up (inl h) = inl h
      up (inr h) = inr (ap suc h.0, h.1)

  -- ---- what a test keeps

  pub filter_among : (p : X → Bool) (xs : List X) (k : ℕ) (x : X) → slice_get (filter p xs) k ≡ Some x → (p x ≡ true) × Among xs x
  filter_among p [] k x e = cc
  filter_among p (y ∷ ys) k x e = go (p y) refl k e (filter_among p ys)
    where
      up : (p x ≡ true) × Among ys x → (p x ≡ true) × Among (y ∷ ys) x
      up h = (h.0, later y ys x h.1)

      go : (b : Bool) → p y ≡ b → (k : ℕ) → slice_get (cond b (y ∷ filter p ys) (filter p ys)) k ≡ Some x
          → ((k : ℕ) (x : X) → slice_get (filter p ys) k ≡ Some x → (p x ≡ true) × Among ys x)
          → (p x ≡ true) × Among (y ∷ ys) x
      go true is zero e rest = (ap p (sym (same_Some y x e)) ∙ is, (0, e))
      go true is (suc k) e rest = up (rest k x e)
      go false is k e rest = up (rest k x e)

  pub filter_has : (p : X → Bool) (xs : List X) (k : ℕ) (x : X) → slice_get xs k ≡ Some x → p x ≡ true → Among (filter p xs) x
  filter_has p [] k x e t = cc
  filter_has p (y ∷ xs) k x e t = go (p y) refl k e (filter_has p xs)
    where
      go : (b : Bool) → p y ≡ b → (k : ℕ) → slice_get (y ∷ xs) k ≡ Some x
          → ((k : ℕ) (x : X) → slice_get xs k ≡ Some x → p x ≡ true → Among (filter p xs) x)
          → Among (cond b (y ∷ filter p xs) (filter p xs)) x
      go true is zero f rest = (0, f)
      go true is (suc k) f rest = later y (filter p xs) x (rest k x f t)
      go false is zero f rest = let q : p y ≡ true = ap p (same_Some y x f) ∙ t in cc
      go false is (suc k) f rest = rest k x f t

  -- ---- the first that passes

  pub find_among : (p : X → Bool) (xs : List X) (x : X) → find p xs ≡ Some x → Among xs x × (p x ≡ true)
  find_among p [] x e = cc
  find_among p (y ∷ ys) x e = go (p y) refl e (find_among p ys x)
    where
      go : (b : Bool) → p y ≡ b → cond b (Some y) (find p ys) ≡ Some x → (find p ys ≡ Some x → Among ys x × (p x ≡ true)) → Among (y ∷ ys) x × (p x ≡ true)
      go true is f rest = let s = same_Some y x f in ((0, ap Some s), ap p (sym s) ∙ is)
      go false is f rest = let r = rest f in (later y ys x r.0, r.1)

  pub find_has : (p : X → Bool) (xs : List X) (k : ℕ) (x : X) → slice_get xs k ≡ Some x → p x ≡ true → (y : X) × (find p xs ≡ Some y)
  find_has p [] k x e t = cc
  find_has p (y ∷ ys) k x e t = go (p y) refl k e (λ i f. find_has p ys i x f t)
    where
      go : (b : Bool) → p y ≡ b → (k : ℕ) → slice_get (y ∷ ys) k ≡ Some x → ((i : ℕ) → slice_get ys i ≡ Some x → (z : X) × (find p ys ≡ Some z)) → (z : X) × (cond b (Some y) (find p ys) ≡ Some z)
      go true is k f rest = (y, refl)
      go false is zero f rest = let q : p y ≡ true = ap p (same_Some y x f) ∙ t in cc
      go false is (suc k) f rest = rest k f

  pub find_same : (p q : X → Bool) (xs : List X) → ((k : ℕ) (x : X) → slice_get xs k ≡ Some x → p x ≡ q x) → find p xs ≡ find q xs
  find_same p q [] h = refl
  find_same p q (x ∷ xs) h = rw (h 0 x refl, find_same p q xs (λ k y e. h (suc k) y e)) refl

-- ---- images

module _ {X Y : Type 0} (f : X → Y) where
  pub map_at : (xs : List X) (k : ℕ) (x : X) → slice_get xs k ≡ Some x → slice_get (map f xs) k ≡ Some (f x)
  map_at xs k x e = slice_get-map f xs k ∙ ap (option_map f) e

  pub map_among : (xs : List X) (k : ℕ) (y : Y) → slice_get (map f xs) k ≡ Some y → (x : X) × (slice_get xs k ≡ Some x) × (f x ≡ y)
  map_among [] k y e = cc
  map_among (x ∷ xs) zero y e = (x, refl, same_Some (f x) y e)
  map_among (x ∷ xs) (suc k) y e = map_among xs k y e

-- images by two functions that agree on the list
pub map_same : {X Y : Type 0} (f g : X → Y) (xs : List X) → ((k : ℕ) (x : X) → slice_get xs k ≡ Some x → f x ≡ g x) → map f xs ≡ map g xs
map_same f g [] h = refl
map_same f g (x ∷ xs) h = rw (h 0 x refl, map_same f g xs (λ k y e. h (suc k) y e)) refl

-- images of images
pub map_map : {A B C : Type 0} (f : B → C) (g : A → B) (xs : List A) → map f (map g xs) ≡ map (λ x. f (g x)) xs
map_map f g [] = refl
map_map f g (x ∷ xs) = ap (λ ys. f (g x) ∷ ys) (map_map f g xs)

-- pieces of one length, joined: the w-th entry of the i-th
pub get_joined : {A X : Type 0} (piece : A → List X) (n : ℕ) → ((a : A) → length (piece a) ≡ n)
    → (xs : List A) (i w : ℕ) (a : A) (x : X) → slice_get xs i ≡ Some a → slice_get (piece a) w ≡ Some x → slice_get (flat_map piece xs) (i * n + w) ≡ Some x
get_joined piece n size [] i w a x e f = cc
get_joined piece n size (b ∷ xs) zero w a x e f =
    let s = same_Some b a e in
    let q : w ≡ zero * n + w = omega arith in
    rw (← q) (get_left (piece b) (flat_map piece xs) w x (ap (λ y. slice_get (piece y) w) s ∙ f))
get_joined piece n size (b ∷ xs) (suc i) w a x e f =
    let s = size b in
    get_right (piece b) (flat_map piece xs) (suc i * n + w) (i * n + w) (omega arith) ∙ get_joined piece n size xs i w a x e f

-- pieces of one length, joined: how many entries
pub length_joined : {A X : Type 0} (piece : A → List X) (n : ℕ) → ((a : A) → length (piece a) ≡ n) → (xs : List A) → length (flat_map piece xs) ≡ length xs * n
length_joined piece n size [] = omega arith
length_joined piece n size (a ∷ xs) =
    let rest = length_joined piece n size xs in
    let here = size a in
    let whole = length-append (piece a) (flat_map piece xs) in
    omega arith

-- as many images as entries of both lists
pub length_nested : {A B X : Type 0} (f : A → B → X) (bs : List B) (zs : List A) → length (flat_map (λ a. map (f a) bs) zs) ≡ length zs * length bs
length_nested f bs [] = omega arith
length_nested f bs (z ∷ zs) =
    let rest = length_nested f bs zs in
    let here = length-map bs (f z) in
    let size = length-append (map (f z) bs) (flat_map (λ a. map (f a) bs) zs) in
    omega arith

-- ---- an entry for each number

-- where each number below n has an entry with the property, there is a list of such entries
pub entries_for : {X : Type 0} (P : ℕ → X → Type 0) (n : ℕ) → ((k : ℕ) → k < n → (x : X) × P k x)
    → (xs : List X) × (length xs ≡ n) × ((k : ℕ) (x : X) → slice_get xs k ≡ Some x → P k x)
entries_for P zero h = ([], refl, λ k x e. cc)
entries_for {X} P (suc n) h =
    let first = h 0 (omega arith) in
    let rest = entries_for (λ k. P (suc k)) n (λ k lt. h (suc k) (omega arith)) in
    (first.0 ∷ rest.0, ap suc rest.1, at first.0 first.1 rest.0 rest.2)
  where
    at : (y : X) → P 0 y → (ys : List X) → ((k : ℕ) (x : X) → slice_get ys k ≡ Some x → P (suc k) x) → (k : ℕ) (x : X) → slice_get (y ∷ ys) k ≡ Some x → P k x
    at y here ys others zero x e = let s = same_Some y x e in rw (← s) here
    at y here ys others (suc k) x e = others k x e

-- ---- the numbers from a on

pub range_at : (a n k : ℕ) → k < n → slice_get (range_with_len a n) k ≡ Some (a + k)
range_at a zero k lt = absurd (omega arith)
range_at a (suc n) zero lt = ap Some (let q : a ≡ a + 0 = omega arith in q)
range_at a (suc n) (suc k) lt = range_at (a + 1) n k (omega arith) ∙ ap Some (let q : a + 1 + k ≡ a + suc k = omega arith in q)

pub in_range : (a n k x : ℕ) → slice_get (range_with_len a n) k ≡ Some x → (a ≤ x) × (x < a + n)
in_range a zero k x e = cc
in_range a (suc n) zero x e = let s = same_Some a x e in (omega arith, omega arith)
in_range a (suc n) (suc k) x e = let r = in_range (a + 1) n k x e in let l = r.0 in let u = r.1 in (omega arith, omega arith)

pub range_has : (a n x : ℕ) → a ≤ x → x < a + n → Among (range_with_len a n) x
range_has a zero x low high = absurd (omega arith)
range_has a (suc n) x low high = go (cases_order a x) (range_has (a + 1) n x)
  where
    go : (a ≡ x) ⊎ ((a < x) ⊎ (x < a)) → (a + 1 ≤ x → x < a + 1 + n → Among (range_with_len (a + 1) n) x) → Among (a ∷ range_with_len (a + 1) n) x
    go (inl e) rest = (0, ap Some e)
    go (inr (inl lt)) rest = later a (range_with_len (a + 1) n) x (rest (omega arith) (omega arith))
    go (inr (inr gt)) rest = absurd (omega arith)

-- one number more
pub range_more : (a n : ℕ) → range_with_len a (n + 1) ≡ range_with_len a n ++ (a + n) ∷ []
range_more a zero = ap (λ x. x ∷ []) (let q : a ≡ a + 0 = omega arith in q)
range_more a (suc n) =
    let s : suc n + 1 ≡ suc (n + 1) = omega arith in
    let q : a + 1 + n ≡ a + suc n = omega arith in
    rw (s, range_more (a + 1) n, q) refl
