-- A partial assignment with the list of the atoms that were set, by which they are unset again.
use Rattle.std.specs.Prelude.{◌≡◌, ℕ, suc, ◌+◌, ◌≤◌, ◌<◌, List, [], ◌∷◌, length, Some, None, slice_set, replicate}
use Rattle.std.specs.List.{AllByRecursion}
use Rattle.count_core.specs.PartialAssignments.{PartialAssignment}

-- how many atoms are unset
abbrev pub unset_number : PartialAssignment → ℕ
unset_number [] = 0
unset_number (None ∷ p) = suc (unset_number p)
unset_number (Some b ∷ p) = unset_number p

-- the atoms of the list unset
abbrev pub unassign_all : List ℕ → PartialAssignment → PartialAssignment
unassign_all [] p = p
unassign_all (a ∷ atoms) p = unassign_all atoms (slice_set p a None)

-- The trail lists atoms of the assignment, one for each that is set: with them unset nothing is set.
-- It has room for all atoms.
pub record IsTrail (values : PartialAssignment) (trail : List ℕ) (capacity : ℕ) : Type 0 where
  pub undone : unassign_all trail values ≡ replicate (length values) None
  pub within : AllByRecursion (λ a. a < length values) trail
  pub number : length trail + unset_number values ≡ length values
  pub room : length values ≤ capacity
