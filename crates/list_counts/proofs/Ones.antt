-- Images of the numbers below n, and that exactly one of them passes a test.
use Rattle.std.proofs.Common.{◌≡◌, ℕ, ◌+◌, ◌<◌, ◌⊎◌, inl, inr, Bool, true, false, List, [], ◌∷◌, ◌++◌, map, Some, slice_get, sym, ap, ◌∙◌, arith, append_assoc, append-nil}
use Rattle.std.specs.Prelude.{count_by, ◌==◌}
use Rattle.std.specs.List.{flat_map, range_with_len, AllByRecursion as Each}
use Rattle.std.proofs.lemmas.Bool.{cases_Bool, eqb-true, eq-eqb, false_from_ne_true}
use Rattle.std.proofs.lemmas.Option.{same_Some, slice_get_within}
use Rattle.std.proofs.lemmas.List.Concat.{flat_map-append}
use Rattle.std.proofs.lemmas.List.FromFn.{map-range_with_len_more, length-range_with_len}
use Rattle.list_counts.proofs.Entries.{in_range, map_among, range_at, range_more}
use Rattle.list_counts.proofs.Facts.{mapped_at, mapped_from}
use Rattle.list_counts.proofs.Counts.{count_map, count_same, found_one, one_place}
use Rattle.list_counts.proofs.Numbers.{range_once}

-- the number at a place below n is the place
pub number_at : (n k : ℕ) → k < n → slice_get (range_with_len 0 n) k ≡ Some k
number_at n k lt = range_at 0 n k lt ∙ ap Some (let q : 0 + k ≡ k = omega arith in q)

-- what a number adds to the lists of those before it
pub joined_more : {X : Type 0} (f : ℕ → List X) (n : ℕ) (old so new : List X) → so ≡ old ++ flat_map f (range_with_len 0 n) → new ≡ so ++ f n → new ≡ old ++ flat_map f (range_with_len 0 (n + 1))
joined_more f n old so new same push =
    let whole : flat_map f (range_with_len 0 (n + 1)) ≡ flat_map f (range_with_len 0 n) ++ f n =
    ap (flat_map f) (range_more 0 n ∙ ap (λ k. range_with_len 0 n ++ k ∷ []) (let q : 0 + n ≡ n = omega arith in q))
    ∙ flat_map-append f (range_with_len 0 n) (n ∷ [])
    ∙ ap (λ ys. flat_map f (range_with_len 0 n) ++ ys) (append-nil (f n))
    in
    push ∙ rw (same, whole) (append_assoc old (flat_map f (range_with_len 0 n)) (f n))

module _ {X : Type 0} (f : ℕ → X) where
  -- one number more
  pub numbers_more : (n : ℕ) → map f (range_with_len 0 (n + 1)) ≡ map f (range_with_len 0 n) ++ f n ∷ []
  numbers_more n = map-range_with_len_more f 0 n n (omega arith)

  -- and one image more after a list
  pub more : (n : ℕ) (old so new : List X) (x : X) → so ≡ old ++ map f (range_with_len 0 n) → x ≡ f n → new ≡ so ++ x ∷ [] → new ≡ old ++ map f (range_with_len 0 (n + 1))
  more n old so new x same is push = push ∙ rw (same, is, numbers_more n) (append_assoc old (map f (range_with_len 0 n)) (f n ∷ []))

  -- the same where the numbers count from a
  pub more_from : (a n j : ℕ) (old so new : List X) (x : X) → a + n ≡ j → so ≡ old ++ map f (range_with_len a n) → x ≡ f j → new ≡ so ++ x ∷ [] → new ≡ old ++ map f (range_with_len a (n + 1))
  more_from a n j old so new x place same is push = push ∙ rw (same, is, map-range_with_len_more f a n j place) (append_assoc old (map f (range_with_len a n)) (f j ∷ []))

  -- what holds of the image of each number below n holds of each image
  pub each_below : (P : X → Type 0) (n : ℕ) → ((j : ℕ) → j < n → P (f j)) → Each P (map f (range_with_len 0 n))
  each_below P n h = mapped_from P f (range_with_len 0 n) (λ k j e. let u = (in_range 0 n k j e).1 in h j (omega arith))

  -- and the other way round
  pub below_each : (P : X → Type 0) (n : ℕ) → Each P (map f (range_with_len 0 n)) → (j : ℕ) → j < n → P (f j)
  below_each P n h j lt = mapped_at P f (range_with_len 0 n) h j j (number_at n j lt)

  -- the image at a place is that of the place
  pub below_at : (n k : ℕ) (x : X) → slice_get (map f (range_with_len 0 n)) k ≡ Some x → (k < n) × (x ≡ f k)
  below_at n k x e =
      let m = map_among f (range_with_len 0 n) k x e in
      let lt : k < n = omega (arith, slice_get_within (range_with_len 0 n) k m.0 m.1, length-range_with_len 0 n) in
      (lt, sym m.2 ∙ ap f (same_Some m.0 k (sym m.1 ∙ number_at n k lt)))

-- of the images of the numbers below n exactly one passes
pub record OneBelow {X : Type 0} (p : X → Bool) (f : ℕ → X) (n : ℕ) : Type 0 where
  pub at : ℕ
  pub within : at < n
  pub passes : p (f at) ≡ true
  pub only : (j : ℕ) → j < n → p (f j) ≡ true → j ≡ at

module _ {X : Type 0} (p : X → Bool) (f : ℕ → X) (n : ℕ) where
  -- then one is counted
  pub one_below : OneBelow p f n → count_by p (map f (range_with_len 0 n)) ≡ 1
  one_below one =
      let within = one.within in
      count_map f p (range_with_len 0 n)
      ∙ count_same (λ j. p (f j)) (λ j. j == one.at) (range_with_len 0 n) (λ k j e. same j (omega (arith, (in_range 0 n k j e).1)))
      ∙ range_once 0 n one.at (omega arith) (omega arith)
    where
      same : (j : ℕ) → j < n → p (f j) ≡ (j == one.at)
      same j lt = by_cases (cases_Bool (j == one.at))
        where
          by_cases : ((j == one.at) ≡ true) ⊎ ((j == one.at) ≡ false) → p (f j) ≡ (j == one.at)
          by_cases (inl e) = ap (λ i. p (f i)) (eqb-true j one.at e) ∙ one.passes ∙ sym e
          by_cases (inr e) = false_from_ne_true (p (f j)) (λ t. let is = eq-eqb j one.at (one.only j lt t) in cc) ∙ sym e

  -- and where one is counted, exactly one passes
  pub below_one : count_by p (map f (range_with_len 0 n)) ≡ 1 → OneBelow p f n
  below_one h =
      let counted = sym (count_map f p (range_with_len 0 n)) ∙ h in
      let found = found_one (λ j. p (f j)) (range_with_len 0 n) counted in
      let u = (in_range 0 n found.2.0 found.0 found.2.1).1 in
      record {
        at = found.0;
        within = omega arith;
        passes = found.3;
        only = λ j lt t.
            let same = one_place (λ i. p (f i)) (range_with_len 0 n) counted j found.2.0 j found.0 (number_at n j lt) t found.2.1 found.3 in
            same_Some j found.0 (sym (number_at n j lt) ∙ ap (slice_get (range_with_len 0 n)) same ∙ found.2.1);
      }
