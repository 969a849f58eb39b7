-- The positions of one group (this project's own rule). Its teams stand in pot order. A wish is the
-- position that is known of a team, be it by its pot, by a ball or by a fixed place; an open one is
-- None. There are as many positions as teams, counted from 1.
use Rattle.std.specs.Prelude.{◌≡◌, ℕ, ◌≤◌, ◌<◌, ◌⊎◌, nat_eq, not, Bool, true, List, [], ◌∷◌, length, filter, Option, Some, None, slice_get}
use Rattle.std.specs.List.{list_any, range_with_len}
use Rattle.std.specs.Option.{option_eq}
use Rattle.list_counts.specs.Counting.{HasEachOnce}

-- some team wishes the position
abbrev pub is_wished : List (Option ℕ) → ℕ → Bool
is_wished wishes position = list_any (λ w. option_eq nat_eq w (Some position)) wishes

-- the positions that no team wishes, in order
abbrev pub free_positions : List (Option ℕ) → List ℕ
free_positions wishes = filter (λ p. not (is_wished wishes p)) (range_with_len 1 (length wishes))

-- Each team has its wish; the others have the free positions in order. Where none is left, as clean
-- wishes never come to, it is 0.
abbrev pub fill : List ℕ → List (Option ℕ) → List ℕ
fill free [] = []
fill free (Some position ∷ wishes) = position ∷ fill free wishes
fill [] (None ∷ wishes) = 0 ∷ fill [] wishes
fill (position ∷ free) (None ∷ wishes) = position ∷ fill free wishes

-- The positions of the teams, in their order.
abbrev pub filled : List (Option ℕ) → List ℕ
filled wishes = fill (free_positions wishes) wishes

-- The wishes are clean, so that all can be met: each is a position, and no two are the same.
pub record AreClean (wishes : List (Option ℕ)) : Type 0 where
  pub within : (k position : ℕ)
      → slice_get wishes k ≡ Some (Some position) → (1 ≤ position) × (position ≤ length wishes)
  pub apart : (j k position : ℕ)
      → slice_get wishes j ≡ Some (Some position) → slice_get wishes k ≡ Some (Some position)
      → j ≡ k

-- ---- laws

-- some team before this one has the position
abbrev pub HasBefore : List ℕ → ℕ → ℕ → Type 0
HasBefore positions k position = (j : ℕ) × (j < k) × (slice_get positions j ≡ Some position)

-- Each position is taken once, and each wish is met. A team without a wish has the least position
-- that no team wishes and no team before it has.
pub record FillsOnce (wishes : List (Option ℕ)) : Type 0 where
  pub size : length (filled wishes) ≡ length wishes
  pub once : HasEachOnce 1 (length wishes) (filled wishes)
  pub met : (k position : ℕ)
      → slice_get wishes k ≡ Some (Some position) → slice_get (filled wishes) k ≡ Some position
  pub least : (k position other : ℕ)
      → slice_get wishes k ≡ Some None → slice_get (filled wishes) k ≡ Some position
      → 1 ≤ other → other < position
      → (is_wished wishes other ≡ true) ⊎ HasBefore (filled wishes) k other

-- Clean wishes are filled.
abbrev pub CleanWishesFill : Type 0
CleanWishesFill = (wishes : List (Option ℕ)) → AreClean wishes → FillsOnce wishes
