-- Where a group has one team of each pot, and its team of a pot has the position at the pot's place in
-- a list, each position that stands once in the list is taken once in the group.
use Rattle.std.proofs.Common.{◌≡◌, ℕ, suc, ◌+◌, ◌≤◌, Bool, true, cond, List, [], ◌∷◌, length, map, Some, slice_get, arith, refl, sym, ap, ◌∙◌}
use Rattle.std.specs.Prelude.{count_by, filter, ◌==◌, ◌&&◌, ◌-◌, slice_index_or}
use Rattle.std.specs.List.{range_with_len}
use Rattle.list_counts.specs.Counting.{times, AreWithin, HasEachOnce}
use Rattle.list_counts.proofs.Entries.{filter_among, in_range, map_among}
use Rattle.list_counts.proofs.Counts.{count_cons, count_same, count_filter, count_map}
use Rattle.list_counts.proofs.Numbers.{same_numbers}

-- at how many places, counted from a, p stands
count_places : (ps : List ℕ) (a p : ℕ) → count_by (λ q. slice_index_or ps (q - a) 0 == p) (range_with_len a (length ps)) ≡ times p ps
count_places [] a p = refl
count_places (x ∷ xs) a p =
    let here = count_cons (λ q. slice_index_or (x ∷ xs) (q - a) 0 == p) a (range_with_len (a + 1) (length xs)) in
    let first : (slice_index_or (x ∷ xs) (a - a) 0 == p) ≡ (x == p) = ap (λ k. slice_index_or (x ∷ xs) k 0 == p) (let z : a - a ≡ 0 = omega arith in z) in
    let rest_same = count_same (λ q. slice_index_or (x ∷ xs) (q - a) 0 == p) (λ q. slice_index_or xs (q - (a + 1)) 0 == p) (range_with_len (a + 1) (length xs)) (λ k q e.
    let low = (in_range (a + 1) (length xs) k q e).0 in
    let z : q - a ≡ suc (q - (a + 1)) = omega arith in
    ap (λ j. slice_index_or (x ∷ xs) j 0 == p) z) in
    let rest = count_places xs (a + 1) p in
    let there = count_cons (λ y. y == p) x xs in
    let bit : ◌≡◌ {A = ℕ} (cond (slice_index_or (x ∷ xs) (a - a) 0 == p) 1 0) (cond (x == p) 1 0) = ap (λ b. cond b 1 0) first in
    omega arith

module _ {T : Type 0} (xs : List T) (in_group : T → Bool) (pot position : T → ℕ) (ps : List ℕ)
    (has : (k : ℕ) (x : T) → slice_get xs k ≡ Some x → in_group x ≡ true → position x ≡ slice_index_or ps (pot x - 1) 0)
    (within : (k : ℕ) (x : T) → slice_get xs k ≡ Some x → in_group x ≡ true → (1 ≤ pot x) × (pot x ≤ length ps))
    (once : (q : ℕ) → 1 ≤ q → q ≤ length ps → count_by (λ x. in_group x && pot x == q) xs ≡ 1) where
  pots_within : AreWithin 1 (length ps) (map pot (filter in_group xs))
  pots_within k q e =
      let m = map_among pot (filter in_group xs) k q e in
      let f = filter_among in_group xs k m.0 m.1 in
      let w = within f.1.0 m.0 f.1.1 f.0 in
      let l = w.0 in
      let u = w.1 in
      let s = m.2 in
      (omega arith, omega arith)

  pots_once : HasEachOnce 1 (length ps) (map pot (filter in_group xs))
  pots_once q low high =
      count_map pot (λ y. y == q) (filter in_group xs) ∙ count_filter in_group (λ x. pot x == q) xs
      ∙ once q low (omega arith)

  pub positions_once : (p : ℕ) → times p ps ≡ 1 → count_by (λ x. in_group x && position x == p) xs ≡ 1
  positions_once p stands =
      sym (count_filter in_group (λ x. position x == p) xs)
      ∙ count_same (λ x. position x == p) (λ x. slice_index_or ps (pot x - 1) 0 == p) (filter in_group xs) (λ k x e.
      let f = filter_among in_group xs k x e in
      ap (λ j. j == p) (has f.1.0 x f.1.1 f.0))
      ∙ sym (count_map pot (λ q. slice_index_or ps (q - 1) 0 == p) (filter in_group xs))
      ∙ same_numbers (λ q. slice_index_or ps (q - 1) 0 == p) 1 (length ps) (map pot (filter in_group xs)) pots_within pots_once
      ∙ count_places ps 1 p ∙ stands
