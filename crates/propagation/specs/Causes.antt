-- Why each literal of a trail is set, and what follows.
use Rattle.std.specs.Prelude.{◌≡◌, Bool, true, false, List, [], ◌∷◌, Option, Some, None}
use Rattle.std.specs.List.{AllByRecursion}
use Rattle.count_core.specs.declared.lit.Lit.{Lit}
use Rattle.count_core.specs.declared.hint.Hint.{Hint}
use Rattle.count_core.specs.declared.count_rule.CountRule.{CountRule}
use Rattle.count_core.specs.Problems.{Problem}
use Rattle.count_core.specs.Assignments.{Satisfies, makes_true}
use Rattle.count_core.specs.PartialAssignments.{PartialAssignment, conflicts, forces, forced_assignment, is_true}
use Rattle.propagation.specs.declared.clause.Clause.{Clause}
use Rattle.propagation.specs.Trails.{Entry, with_true, IsFree}
use Rattle.propagation.specs.Constraints.{IsNamed}

-- The constraint does not conflict, forces, and makes the literal true.
pub record ForcesLit (p : PartialAssignment) (r : CountRule) (l : Lit) : Type 0 where
  pub calm : conflicts p r.lits r.lo r.hi ≡ false
  pub active : forces p r.lits r.lo r.hi ≡ true
  pub makes : is_true (forced_assignment p r.lits r.lo r.hi) l ≡ true

-- With p set, the literal was assumed, or a constraint forces it that its cause names.
abbrev pub IsCaused : Problem → List Clause → PartialAssignment → Lit → Option Hint → Type 0
IsCaused problem clauses p l None = Unit {0}
IsCaused problem clauses p l (Some h) =
    (r : CountRule) × IsNamed problem clauses h r × ForcesLit p r l

-- Each literal is free when its turn comes, and caused by what is set before it.
abbrev pub AreCaused : Problem → List Clause → PartialAssignment → List Entry → Type 0
AreCaused problem clauses p [] = Unit {0}
AreCaused problem clauses p (e ∷ es) =
    IsFree p e.lit × IsCaused problem clauses p e.lit e.cause
    × AreCaused problem clauses (with_true p e.lit) es

-- The assignment makes each assumed literal true.
abbrev pub MeetsAssumed : List Bool → List Entry → Type 0
MeetsAssumed values es =
    AllByRecursion (λ (e : Entry). e.cause ≡ None → makes_true values e.lit ≡ true) es

-- The assignment makes each literal true.
abbrev pub MeetsAll : List Bool → List Entry → Type 0
MeetsAll values es = AllByRecursion (λ (e : Entry). makes_true values e.lit ≡ true) es

-- Each literal is true in each assignment that satisfies the problem and makes those true that were
-- assumed.
abbrev pub AllFollow : Problem → List Entry → Type 0
AllFollow problem es =
    (values : List Bool) → Satisfies values problem → MeetsAssumed values es → MeetsAll values es
