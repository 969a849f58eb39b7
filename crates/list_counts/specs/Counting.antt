-- How often numbers stand in a list.
use Rattle.std.specs.Prelude.{◌≡◌, ℕ, ◌+◌, ◌≤◌, ◌<◌, ◌==◌, Bool, List, length, count_by, Some, slice_get}
use Rattle.std.specs.List.{range_with_len}

-- how often the number stands in the list
abbrev pub times : ℕ → List ℕ → ℕ
times n xs = count_by (λ x. x == n) xs

-- Each number of the list is one of the n from a on.
abbrev pub AreWithin : ℕ → ℕ → List ℕ → Type 0
AreWithin a n xs = (k x : ℕ) → slice_get xs k ≡ Some x → (a ≤ x) × (x < a + n)

-- Each of the n numbers from a on stands once in the list.
abbrev pub HasEachOnce : ℕ → ℕ → List ℕ → Type 0
HasEachOnce a n xs = (x : ℕ) → a ≤ x → x < a + n → times x xs ≡ 1

-- ---- laws

-- A list that has each of n numbers once, and no other, passes a test as often as these numbers do.
abbrev pub SameNumbers : Type 0
SameNumbers = (test : ℕ → Bool) (a n : ℕ) (xs : List ℕ)
    → AreWithin a n xs → HasEachOnce a n xs → count_by test xs ≡ count_by test (range_with_len a n)

-- A list of n numbers that has each of n numbers once has no other.
abbrev pub AllWithin : Type 0
AllWithin = (a n : ℕ) (xs : List ℕ) → length xs ≡ n → HasEachOnce a n xs → AreWithin a n xs
