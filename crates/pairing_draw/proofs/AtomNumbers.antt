-- Atoms as numbers, and lists over the numbers below n.
use Rattle.std.proofs.Common.{◌≡◌, ℕ, zero, suc, ◌+◌, ◌*◌, ◌<◌, ◌≤◌, Bool, true, false, cond, List, [], ◌∷◌, ◌++◌, map, Some, slice_get, ◌⊎◌, inl, inr, refl, sym, ap, ◌∙◌, arith, subst, append_assoc}
use Rattle.std.specs.Prelude.{count_by}
use Rattle.std.specs.List.{range_with_len, AllByRecursion as Each}
use Rattle.std.proofs.Math.Nat.{mul-le-mul_left}
use Rattle.std.proofs.lemmas.Bool.{cases_order, cases_Bool}
use Rattle.std.proofs.lemmas.List.FromFn.{map-range_with_len_more}
use Rattle.team_files.specs.Heads.{most_teams}
use Rattle.count_core.proofs.Lists.{count_cons}

-- ---- atoms

-- an atom is one of the problem's
pub atom_within : (m n r w : ℕ) → r < m → w < n → r * n + w < m * n
atom_within m n r w in_m in_n =
    let h : n * (r + 1) ≤ n * m = mul-le-mul_left n (omega arith) in
    omega arith

-- the pairs of few runners-up and few winners are few
pub small_product : (m n : ℕ) → m ≤ most_teams → n ≤ most_teams → m * n ≤ most_teams * most_teams
small_product m n few_m few_n =
    let h : m * n ≤ m * most_teams = mul-le-mul_left m few_n in
    omega arith

rows_apart : (n r s w v : ℕ) → r < s → w < n → r * n + w ≡ s * n + v → ⊥
rows_apart n r s w v before in_n e =
    let h : n * (r + 1) ≤ n * s = mul-le-mul_left n (omega arith) in
    absurd (omega arith)

-- an atom is of one runner-up and one winner
pub same_atom : (n r s w v : ℕ) → w < n → v < n → r * n + w ≡ s * n + v → (r ≡ s) × (w ≡ v)
same_atom n r s w v in_w in_v e = by_cases (cases_order r s)
  where
    by_cases : (r ≡ s) ⊎ ((r < s) ⊎ (s < r)) → (r ≡ s) × (w ≡ v)
    by_cases (inl q) = let p : r * n ≡ s * n = ap (λ x. x * n) q in (q, omega arith)
    by_cases (inr (inl lt)) = absurd (rows_apart n r s w v lt in_w e)
    by_cases (inr (inr gt)) = absurd (rows_apart n s r v w gt in_v (sym e))

-- ---- lists over numbers

-- one number more
pub numbers_more : {X : Type 0} (f : ℕ → X) (n : ℕ) → map f (range_with_len 0 (n + 1)) ≡ map f (range_with_len 0 n) ++ f n ∷ []
numbers_more f n = map-range_with_len_more f 0 n n (omega arith)

module _ {X : Type 0} (f : ℕ → X) where
  each_number : (P : X → Type 0) (a n : ℕ) → ((j : ℕ) → a ≤ j → j < a + n → P (f j)) → Each P (map f (range_with_len a n))
  each_number P a zero h = tt
  each_number P a (suc n) h = (h a (omega arith) (omega arith), each_number P (a + 1) n (λ j low high. h j (omega arith) (omega arith)))

  number_each : (P : X → Type 0) (a n : ℕ) → Each P (map f (range_with_len a n)) → (j : ℕ) → a ≤ j → j < a + n → P (f j)
  number_each P a zero h j low high = absurd (omega arith)
  number_each P a (suc n) h j low high = by_cases (cases_order a j) (number_each P (a + 1) n h.1 j)
    where
      by_cases : (a ≡ j) ⊎ ((a < j) ⊎ (j < a)) → (a + 1 ≤ j → j < a + 1 + n → P (f j)) → P (f j)
      by_cases (inr (inl lt)) rest = rest (omega arith) (omega arith)
      by_cases (inl e) rest = subst (λ k. P (f k)) e h.0
      by_cases (inr (inr gt)) rest = absurd (omega arith)

  number_at : (a n k : ℕ) (x : X) → slice_get (map f (range_with_len a n)) k ≡ Some x → (k < n) × (x ≡ f (a + k))
  number_at a zero k x e = cc
  number_at a (suc n) zero x e = let q : f a ≡ x = cc in let s : a ≡ a + 0 = omega arith in (omega arith, sym q ∙ ap f s)
  number_at a (suc n) (suc k) x e =
      let rest = number_at (a + 1) n k x e in
      let s : a + 1 + k ≡ a + suc k = omega arith in
      (omega (arith, rest.0), rest.1 ∙ ap f s)

  -- what holds of the image of each number below n holds of each image
  pub each_below : (P : X → Type 0) (n : ℕ) → ((j : ℕ) → j < n → P (f j)) → Each P (map f (range_with_len 0 n))
  each_below P n h = each_number P 0 n (λ j low high. h j (omega arith))

  -- and the other way round
  pub below_each : (P : X → Type 0) (n : ℕ) → Each P (map f (range_with_len 0 n)) → (j : ℕ) → j < n → P (f j)
  below_each P n h j lt = number_each P 0 n h j (omega arith) (omega arith)

  -- the image at a place is that of the place
  pub below_at : (n k : ℕ) (x : X) → slice_get (map f (range_with_len 0 n)) k ≡ Some x → (k < n) × (x ≡ f k)
  below_at n k x e = let h = number_at 0 n k x e in let s : 0 + k ≡ k = omega arith in (h.0, h.1 ∙ ap f s)

-- ---- how many pass a test

module _ {X : Type 0} (p : X → Bool) (f : ℕ → X) where
  -- how many images pass
  abbrev pub number : ℕ → ℕ → ℕ
  number a n = count_by p (map f (range_with_len a n))

  number_yes : (a n : ℕ) → p (f a) ≡ true → number a (suc n) ≡ 1 + number (a + 1) n
  number_yes a n e = count_cons p (f a) (map f (range_with_len (a + 1) n)) ∙ ap (λ b. cond b 1 0 + number (a + 1) n) e

  number_no : (a n : ℕ) → p (f a) ≡ false → number a (suc n) ≡ number (a + 1) n
  number_no a n e = let h = count_cons p (f a) (map f (range_with_len (a + 1) n)) ∙ ap (λ b. cond b 1 0 + number (a + 1) n) e in h ∙ omega arith

  none_true : (a n : ℕ) → ((j : ℕ) → a ≤ j → j < a + n → p (f j) ≡ true → ⊥) → number a n ≡ 0
  none_true a zero h = refl
  none_true a (suc n) h = by_cases (cases_Bool (p (f a))) (none_true (a + 1) n (λ j low high. h j (omega arith) (omega arith)))
    where
      by_cases : (p (f a) ≡ true) ⊎ (p (f a) ≡ false) → number (a + 1) n ≡ 0 → number a (suc n) ≡ 0
      by_cases (inl e) rest = absurd (h a (omega arith) (omega arith) e)
      by_cases (inr e) rest = number_no a n e ∙ rest

  none_found : (a n : ℕ) → number a n ≡ 0 → (j : ℕ) → a ≤ j → j < a + n → p (f j) ≡ true → ⊥
  none_found a zero h j low high e = absurd (omega arith)
  none_found a (suc n) h j low high e = by_cases (cases_Bool (p (f a))) (cases_order a j) (λ g down. none_found (a + 1) n g j down (omega arith) e)
    where
      by_cases : (p (f a) ≡ true) ⊎ (p (f a) ≡ false) → (a ≡ j) ⊎ ((a < j) ⊎ (j < a)) → (number (a + 1) n ≡ 0 → a + 1 ≤ j → ⊥) → ⊥
      by_cases (inl is) o rest = let s = number_yes a n is in absurd (omega arith)
      by_cases (inr isnt) (inr (inl lt)) rest = rest (sym (number_no a n isnt) ∙ h) (omega arith)
      by_cases (inr isnt) (inl s) rest = let t : p (f a) ≡ true = subst (λ x. p (f x) ≡ true) (sym s) e in cc
      by_cases (inr isnt) (inr (inr gt)) rest = absurd (omega arith)

  -- one of the numbers passes, and no other
  record One (a n : ℕ) : Type 0 where
    pub at : ℕ
    pub low : a ≤ at
    pub high : at < a + n
    pub passes : p (f at) ≡ true
    pub only : (j : ℕ) → a ≤ j → j < a + n → p (f j) ≡ true → j ≡ at

  one_true : (a n : ℕ) → One a n → number a n ≡ 1
  one_true a zero one = let l = one.low in let h = one.high in absurd (omega arith)
  one_true a (suc n) one = by_cases (cases_Bool (p (f a))) (cases_order a one.at) (λ g. one_true (a + 1) n g)
    where
      by_cases : (p (f a) ≡ true) ⊎ (p (f a) ≡ false) → (a ≡ one.at) ⊎ ((a < one.at) ⊎ (one.at < a)) → (One (a + 1) n → number (a + 1) n ≡ 1) → number a (suc n) ≡ 1
      by_cases (inl is) o rest =
          let first : a ≡ one.at = one.only a (omega arith) (omega arith) is in
          let none = none_true (a + 1) n (λ j down up t. let s = one.only j (omega arith) (omega arith) t in absurd (omega arith)) in
          number_yes a n is ∙ ap (λ x. 1 + x) none
      by_cases (inr isnt) (inr (inl lt)) rest = number_no a n isnt ∙ rest (record {
        at = one.at;
        low = omega arith;
        high = (let h = one.high in omega arith);
        passes = one.passes;
        only = λ j down up t. one.only j (omega arith) (omega arith) t;
      })
      by_cases (inr isnt) (inl s) rest = let t : p (f a) ≡ true = subst (λ x. p (f x) ≡ true) (sym s) one.passes in cc
      by_cases (inr isnt) (inr (inr gt)) rest = let l = one.low in absurd (omega arith)

  one_found : (a n : ℕ) → number a n ≡ 1 → One a n
  one_found a zero h = absurd (omega arith)
  one_found a (suc n) h = by_cases (cases_Bool (p (f a))) (λ g. one_found (a + 1) n g)
    where
      first : p (f a) ≡ true → (j : ℕ) → a ≤ j → j < a + suc n → p (f j) ≡ true → (a ≡ j) ⊎ ((a < j) ⊎ (j < a)) → j ≡ a
      first is j down up t (inr (inl lt)) = let s = number_yes a n is in absurd (none_found (a + 1) n (omega arith) j (omega arith) (omega arith) t)
      first is j down up t (inl e) = sym e
      first is j down up t (inr (inr gt)) = absurd (omega arith)

      later : p (f a) ≡ false → (rest : One (a + 1) n) → (j : ℕ) → a ≤ j → j < a + suc n → p (f j) ≡ true → (a ≡ j) ⊎ ((a < j) ⊎ (j < a)) → j ≡ rest.at
      later isnt rest j down up t (inr (inl lt)) = rest.only j (omega arith) (omega arith) t
      later isnt rest j down up t (inl s) = let q : p (f a) ≡ true = subst (λ x. p (f x) ≡ true) (sym s) t in cc
      later isnt rest j down up t (inr (inr gt)) = absurd (omega arith)

      by_cases : (p (f a) ≡ true) ⊎ (p (f a) ≡ false) → (number (a + 1) n ≡ 1 → One (a + 1) n) → One a (suc n)
      by_cases (inl is) rest = record {
        at = a;
        low = omega arith;
        high = omega arith;
        passes = is;
        only = λ j down up t. first is j down up t (cases_order a j);
      }
      by_cases (inr isnt) rest =
          let found = rest (sym (number_no a n isnt) ∙ h) in
          let l = found.low in
          let u = found.high in
          record {
            at = found.at;
            low = omega arith;
            high = omega arith;
            passes = found.passes;
            only = λ j down up t. later isnt found j down up t (cases_order a j);
          }

  -- the same for the numbers below n
  pub record OneBelow (n : ℕ) : Type 0 where
    pub at : ℕ
    pub within : at < n
    pub passes : p (f at) ≡ true
    pub only : (j : ℕ) → j < n → p (f j) ≡ true → j ≡ at

  -- where exactly one passes, one is counted
  pub one_below : (n : ℕ) → OneBelow n → number 0 n ≡ 1
  one_below n one = one_true 0 n (record {
    at = one.at;
    low = omega arith;
    high = omega (arith, one.within);
    passes = one.passes;
    only = λ j low high t. one.only j (omega arith) t;
  })

  -- where one is counted, exactly one passes
  pub below_one : (n : ℕ) → number 0 n ≡ 1 → OneBelow n
  below_one n h =
      let found = one_found 0 n h in
      record {
        at = found.at;
        within = omega (arith, found.high);
        passes = found.passes;
        only = λ j lt t. found.only j (omega arith) (omega arith) t;
      }

-- one more item after the old ones
pub more : {X : Type 0} (f : ℕ → X) (n : ℕ) (old so new : List X) (x : X) → so ≡ old ++ map f (range_with_len 0 n) → x ≡ f n → new ≡ so ++ x ∷ [] → new ≡ old ++ map f (range_with_len 0 (n + 1))
more f n old so new x is same push = push ∙ rw (same, is, numbers_more f n) (append_assoc old (map f (range_with_len 0 n)) (f n ∷ []))
