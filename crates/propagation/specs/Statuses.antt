-- What a constraint does under an assignment, by definition and by numbers.
use Rattle.std.specs.Prelude.{◌≡◌, ◌≢◌, ℕ, ◌-◌, ◌≤◌, ◌<◌, ◌⊎◌, Bool, true, false, length}
use Rattle.count_core.specs.declared.count_rule.CountRule.{CountRule}
use Rattle.count_core.specs.PartialAssignments.{PartialAssignment, conflicts, forces, trues, falses}
use Rattle.propagation.specs.declared.status.Status.{Status}
use Rattle.propagation.specs.declared.status.Status.TheVariants.{Conflicting, Forcing, Quiet}
use Rattle.propagation.specs.Constraints.{IsQuietConstraint}

-- The constraint does not conflict, and is at its upper bound (false) or at its lower one (true).
abbrev pub IsAtBound : Bool → PartialAssignment → CountRule → Type 0
IsAtBound false p r = (trues p r.lits ≡ r.hi) × (r.lo ≤ length r.lits - falses p r.lits)
IsAtBound true p r = (length r.lits - falses p r.lits ≡ r.lo) × (trues p r.lits ≤ r.hi)

-- The constraint has the status.
abbrev pub HasStatus : PartialAssignment → CountRule → Status → Type 0
HasStatus p r Conflicting = conflicts p r.lits r.lo r.hi ≡ true
HasStatus p r (Forcing b) = (forces p r.lits r.lo r.hi ≡ true) × IsAtBound b p r
HasStatus p r Quiet = IsQuietConstraint p r

-- The numbers of a constraint give the status: of n literals t are true and f are false.
abbrev pub HasCounts : ℕ → ℕ → ℕ → ℕ → ℕ → Status → Type 0
HasCounts n lo hi t f Conflicting = (hi < t) ⊎ (n - f < lo)
HasCounts n lo hi t f (Forcing false) = (n - f ≢ t) × (t ≡ hi) × (lo ≤ n - f)
HasCounts n lo hi t f (Forcing true) = (n - f ≢ t) × (n - f ≡ lo) × (t ≤ hi)
HasCounts n lo hi t f Quiet = (t ≤ hi) × (lo ≤ n - f) × ((n - f ≡ t) ⊎ ((t ≢ hi) × (n - f ≢ lo)))
