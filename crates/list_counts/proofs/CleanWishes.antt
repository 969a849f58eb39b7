-- Clean wishes are filled: each position is taken once, each wish is met, and the least free positions come first.
use Rattle.std.proofs.Common.{◌≡◌, ℕ, zero, suc, ◌+◌, ◌<◌, ◌≤◌, ◌⊎◌, inl, inr, Bool, true, false, cond, not, List, [], ◌∷◌, ◌++◌, length, Option, Some, None, slice_get, arith, refl, sym, ap, ◌∙◌, length-append, append-nil, drop}
use Rattle.std.specs.Prelude.{filter, ◌==◌, ◌||◌, nat_eq, slice_index_or}
use Rattle.std.specs.Option.{option_eq}
use Rattle.std.specs.List.{range_with_len, AllByRecursion as Each}
use Rattle.std.proofs.lemmas.Bool.{cases_Bool, eqb-true, not_from_false}
use Rattle.std.proofs.lemmas.List.Elements.{filter-append}
use Rattle.std.proofs.lemmas.Option.{same_Some}
use Rattle.list_counts.specs.Counting.{times, AreWithin, HasEachOnce}
use Rattle.list_counts.specs.Filling.{is_wished, free_positions, fill, filled, AreClean, HasBefore, CleanWishesFill}
use Rattle.list_counts.proofs.Entries.{Among, append_among, filter_among, filter_has, in_range, range_has, range_more}
use Rattle.list_counts.proofs.Facts.{each_from, each_at}
use Rattle.list_counts.proofs.Counts.{count_cons, count_yes, count_no, count_append}
use Rattle.list_counts.proofs.Numbers.{once_length, all_within, range_once, filter_times}

-- ---- wishes

-- the positions that are wished
abbrev wished : List (Option ℕ) → List ℕ
wished [] = []
wished (Some p ∷ ws) = p ∷ wished ws
wished (None ∷ ws) = wished ws

-- how many wishes are not made
abbrev unwished_number : List (Option ℕ) → ℕ
unwished_number [] = 0
unwished_number (Some p ∷ ws) = unwished_number ws
unwished_number (None ∷ ws) = 1 + unwished_number ws

wished_or_not : (ws : List (Option ℕ)) → length (wished ws) + unwished_number ws ≡ length ws
wished_or_not [] = refl
wished_or_not (Some p ∷ ws) = let r = wished_or_not ws in omega arith
wished_or_not (None ∷ ws) = let r = wished_or_not ws in omega arith

wished_among : (ws : List (Option ℕ)) (k p : ℕ) → slice_get (wished ws) k ≡ Some p → Among ws (Some p)
wished_among [] k p e = cc
wished_among (Some q ∷ ws) zero p e = (0, ap Some e)
wished_among (Some q ∷ ws) (suc k) p e = let r = wished_among ws k p e in (suc r.0, r.1)
wished_among (None ∷ ws) k p e = let r = wished_among ws k p e in (suc r.0, r.1)

is_this : (o : Option ℕ) (p : ℕ) → option_eq nat_eq o (Some p) ≡ true → o ≡ Some p
is_this None p e = cc
is_this (Some q) p e = ap Some (eqb-true q p e)

wished_at : (ws : List (Option ℕ)) (p : ℕ) → is_wished ws p ≡ true → Among ws (Some p)
wished_at [] p e = cc
wished_at (w ∷ ws) p e = go (option_eq nat_eq w (Some p)) refl e (wished_at ws p)
  where
    go : (b : Bool) → option_eq nat_eq w (Some p) ≡ b → (b || is_wished ws p) ≡ true
        → (is_wished ws p ≡ true → Among ws (Some p)) → Among (w ∷ ws) (Some p)
    go true is f rest = (0, ap Some (is_this w p is))
    go false is f rest = let r = rest f in (suc r.0, r.1)

-- a position that no two wish is wished once or not at all
wished_times : (ws : List (Option ℕ)) (p : ℕ)
    → ((i j : ℕ) → slice_get ws i ≡ Some (Some p) → slice_get ws j ≡ Some (Some p) → i ≡ j)
    → times p (wished ws) ≡ cond (is_wished ws p) 1 0
wished_times [] p apart = refl
wished_times (None ∷ ws) p apart = wished_times ws p (λ i j e f. let h = apart (suc i) (suc j) e f in omega arith)
wished_times (Some q ∷ ws) p apart = go (cases_Bool (q == p)) (wished_times ws p (λ i j e f. let h = apart (suc i) (suc j) e f in omega arith))
  where
    later : q ≡ p → (b : Bool) → is_wished ws p ≡ b → b ≡ false
    later s true e = let r = wished_at ws p e in let h = apart 0 (suc r.0) (ap (λ x. Some (Some x)) s) r.1 in absurd (omega arith)
    later s false e = refl

    go : ((q == p) ≡ true) ⊎ ((q == p) ≡ false) → times p (wished ws) ≡ cond (is_wished ws p) 1 0
        → times p (q ∷ wished ws) ≡ cond ((q == p) || is_wished ws p) 1 0
    go (inl e) rest =
        let none = later (eqb-true q p e) (is_wished ws p) refl in
        let nowhere : times p (wished ws) ≡ 0 = rest ∙ ap (λ b. cond b 1 0) none in
        count_yes (λ x. x == p) q (wished ws) e ∙ ap (λ k. 1 + k) nowhere ∙ sym (ap (λ b. cond (b || is_wished ws p) 1 0) e)
    go (inr e) rest = count_no (λ x. x == p) q (wished ws) e ∙ rest ∙ sym (ap (λ b. cond (b || is_wished ws p) 1 0) e)

-- ---- what is free

free_times : (ws : List (Option ℕ)) (p : ℕ) → 1 ≤ p → p < 1 + length ws → times p (free_positions ws) ≡ cond (not (is_wished ws p)) 1 0
free_times ws p low high =
    filter_times (λ x. not (is_wished ws x)) p (range_with_len 1 (length ws))
    ∙ ap (λ n. cond (not (is_wished ws p)) n 0) (range_once 1 (length ws) p low high)

-- each number is below all after it
abbrev Rises : List ℕ → Type 0
Rises [] = Unit {0}
Rises (x ∷ xs) = Each (λ y. x < y) xs × Rises xs

range_rises : (a n : ℕ) → Rises (range_with_len a n)
range_rises a zero = tt
range_rises a (suc n) = (each_from (λ y. a < y) (range_with_len (a + 1) n) (λ k y e. let r = in_range (a + 1) n k y e in let l = r.0 in omega arith), range_rises (a + 1) n)

filter_rises : (keep : ℕ → Bool) (xs : List ℕ) → Rises xs → Rises (filter keep xs)
filter_rises keep [] h = tt
filter_rises keep (x ∷ xs) h = go (keep x) (filter_rises keep xs h.1)
  where
    go : (b : Bool) → Rises (filter keep xs) → Rises (cond b (x ∷ filter keep xs) (filter keep xs))
    go true rest = (each_from (λ y. x < y) (filter keep xs) (λ k y e. let f = filter_among keep xs k y e in each_at (λ z. x < z) xs h.0 f.1.0 y f.1.1), rest)
    go false rest = rest

-- ---- filling

fill_size : (free : List ℕ) (ws : List (Option ℕ)) → length (fill free ws) ≡ length ws
fill_size free [] = refl
fill_size free (Some p ∷ ws) = ap suc (fill_size free ws)
fill_size [] (None ∷ ws) = ap suc (fill_size [] ws)
fill_size (f ∷ free) (None ∷ ws) = ap suc (fill_size free ws)

-- there are as many positions as wishes
pub filled_size : (ws : List (Option ℕ)) → length (filled ws) ≡ length ws
filled_size ws = fill_size (free_positions ws) ws

fill_met : (free : List ℕ) (ws : List (Option ℕ)) (k p : ℕ) → slice_get ws k ≡ Some (Some p) → slice_get (fill free ws) k ≡ Some p
fill_met free [] k p e = cc
fill_met free (Some q ∷ ws) zero p e = same_Some (Some q) (Some p) e
fill_met free (Some q ∷ ws) (suc k) p e = fill_met free ws k p e
fill_met [] (None ∷ ws) zero p e = cc
fill_met [] (None ∷ ws) (suc k) p e = fill_met [] ws k p e
fill_met (f ∷ free) (None ∷ ws) zero p e = cc
fill_met (f ∷ free) (None ∷ ws) (suc k) p e = fill_met free ws k p e

-- where as many positions are free as wishes are not made, the filled positions are the free and the wished ones
fill_times : (p : ℕ) (free : List ℕ) (ws : List (Option ℕ)) → unwished_number ws ≡ length free → times p (fill free ws) ≡ times p free + times p (wished ws)
fill_times p [] [] e = refl
fill_times p (f ∷ free) [] e = absurd (omega arith)
fill_times p free (Some q ∷ ws) e =
    let rest = fill_times p free ws e in
    let a = count_cons (λ x. x == p) q (fill free ws) in
    let b = count_cons (λ x. x == p) q (wished ws) in
    omega arith
fill_times p [] (None ∷ ws) e = absurd (omega arith)
fill_times p (f ∷ free) (None ∷ ws) e =
    let rest = fill_times p free ws (omega arith) in
    let a = count_cons (λ x. x == p) f (fill free ws) in
    let b = count_cons (λ x. x == p) f free in
    omega arith

-- what is free and less than the position of a team without a wish, a team before it has
fill_least : (free : List ℕ) (ws : List (Option ℕ)) → Rises free → (k p : ℕ) → slice_get ws k ≡ Some None → slice_get (fill free ws) k ≡ Some p
    → (i q : ℕ) → slice_get free i ≡ Some q → q < p → HasBefore (fill free ws) k q
fill_least free [] h k p e f i q g lt = cc
fill_least free (Some r ∷ ws) h zero p e f i q g lt = cc
fill_least free (Some r ∷ ws) h (suc k) p e f i q g lt =
    let b = fill_least free ws h k p e f i q g lt in
    (suc b.0, (let l = b.1 in omega arith), b.2)
fill_least [] (None ∷ ws) h k p e f i q g lt = cc
fill_least (x ∷ free) (None ∷ ws) h zero p e f zero q g lt = let s = same_Some x p f in let t = same_Some x q g in absurd (omega arith)
fill_least (x ∷ free) (None ∷ ws) h zero p e f (suc i) q g lt =
    let s = same_Some x p f in
    let above = each_at (λ y. x < y) free h.0 i q g in
    absurd (omega arith)
fill_least (x ∷ free) (None ∷ ws) h (suc k) p e f zero q g lt = (0, omega arith, g)
fill_least (x ∷ free) (None ∷ ws) h (suc k) p e f (suc i) q g lt =
    let b = fill_least free ws h.1 k p e f i q g lt in
    (suc b.0, (let l = b.1 in omega arith), b.2)

module _ (ws : List (Option ℕ)) (clean : AreClean ws) where
  one_of : (b : Bool) → cond (not b) 1 0 + cond b 1 0 ≡ 1
  one_of true = refl
  one_of false = refl

  -- each position is free or wished
  each_once : HasEachOnce 1 (length ws) (free_positions ws ++ wished ws)
  each_once p low high =
      let a = free_times ws p low high in
      let b = wished_times ws p (λ i j e f. clean.apart i j p e f) in
      count_append (λ x. x == p) (free_positions ws) (wished ws) ∙ rw (a, b) (one_of (is_wished ws p))

  enough : unwished_number ws ≡ length (free_positions ws)
  enough =
      let all = once_length 1 (length ws) (free_positions ws ++ wished ws) within each_once in
      let size = length-append (free_positions ws) (wished ws) in
      let parts = wished_or_not ws in
      omega arith
    where
      by_part : (x : ℕ) → Among (free_positions ws) x ⊎ Among (wished ws) x → (1 ≤ x) × (x < 1 + length ws)
      by_part x (inl h) =
          let f = filter_among (λ p. not (is_wished ws p)) (range_with_len 1 (length ws)) h.0 x h.1 in
          in_range 1 (length ws) f.1.0 x f.1.1
      by_part x (inr h) =
          let w = wished_among ws h.0 x h.1 in
          let c = clean.within w.0 x w.1 in
          let l = c.0 in
          let u = c.1 in
          (omega arith, omega arith)

      within : AreWithin 1 (length ws) (free_positions ws ++ wished ws)
      within k x e = by_part x (append_among (free_positions ws) (wished ws) k x e)

  once : HasEachOnce 1 (length ws) (filled ws)
  once p low high =
      fill_times p (free_positions ws) ws enough
      ∙ sym (count_append (λ x. x == p) (free_positions ws) (wished ws)) ∙ each_once p low high

  least : (k p q : ℕ) → slice_get ws k ≡ Some None → slice_get (filled ws) k ≡ Some p → 1 ≤ q → q < p → (is_wished ws q ≡ true) ⊎ HasBefore (filled ws) k q
  least k p q e f low lt = go (cases_Bool (is_wished ws q))
    where
      below : q < 1 + length ws
      below = let u = (all_within 1 (length ws) (filled ws) (fill_size (free_positions ws) ws) once k p f).1 in omega arith

      go : (is_wished ws q ≡ true) ⊎ (is_wished ws q ≡ false) → (is_wished ws q ≡ true) ⊎ HasBefore (filled ws) k q
      go (inl is) = inl is
      go (inr isnt) =
          let r = range_has 1 (length ws) q low below in
          let free = filter_has (λ p. not (is_wished ws p)) (range_with_len 1 (length ws)) r.0 q r.1 (not_from_false (is_wished ws q) isnt) in
          inr (fill_least (free_positions ws) ws (filter_rises (λ p. not (is_wished ws p)) (range_with_len 1 (length ws)) (range_rises 1 (length ws))) k p e f free.0 q free.1 lt)

pub clean_wishes_fill : CleanWishesFill
clean_wishes_fill ws clean = record {
  size = fill_size (free_positions ws) ws;
  once = once ws clean;
  met = fill_met (free_positions ws) ws;
  least = least ws clean;
}

-- ---- the free positions and the filling, one by one

-- a position that is wished is left out
pub free_skip : (ws : List (Option ℕ)) (n : ℕ) → is_wished ws (n + 1) ≡ true → filter (λ p. not (is_wished ws p)) (range_with_len 1 (n + 1)) ≡ filter (λ p. not (is_wished ws p)) (range_with_len 1 n)
free_skip ws n e =
    let q : 1 + n ≡ n + 1 = omega arith in
    ap (filter (λ p. not (is_wished ws p))) (range_more 1 n)
    ∙ filter-append (λ p. not (is_wished ws p)) (range_with_len 1 n) ((1 + n) ∷ [])
    ∙ rw (q, e, append-nil) refl

-- another is kept
pub free_push : (ws : List (Option ℕ)) (n : ℕ) → is_wished ws (n + 1) ≡ false → filter (λ p. not (is_wished ws p)) (range_with_len 1 (n + 1)) ≡ filter (λ p. not (is_wished ws p)) (range_with_len 1 n) ++ (n + 1) ∷ []
free_push ws n e =
    let q : 1 + n ≡ n + 1 = omega arith in
    ap (filter (λ p. not (is_wished ws p))) (range_more 1 n)
    ∙ filter-append (λ p. not (is_wished ws p)) (range_with_len 1 n) ((1 + n) ∷ [])
    ∙ rw (q, e) refl

-- a wish that is not made takes the next free position
pub fill_next : (n : ℕ) (free : List ℕ) (ws : List (Option ℕ)) → fill (drop n free) (None ∷ ws) ≡ slice_index_or free n 0 ∷ fill (drop (n + 1) free) ws
fill_next zero [] ws = refl
fill_next zero (x ∷ free) ws = refl
fill_next (suc n) [] ws = let q : suc n + 1 ≡ suc (n + 1) = omega arith in rw q refl
fill_next (suc n) (x ∷ free) ws = fill_next n free ws ∙ (let q : suc n + 1 ≡ suc (n + 1) = omega arith in rw q refl)
