-- Which fault of rules is told: the first of the first rule that has one.
use Rattle.std.specs.Prelude.{◌≡◌, ℕ, ◌<◌, ◌↔◌, true, false, List, slice_get, Some, None}
use Rattle.std.specs.List.{AllByRecursion}
use Rattle.count_core.specs.declared.count_rule.CountRule.{CountRule}
use Rattle.count_core.specs.declared.faults.CoreFault.{CoreFault}
use Rattle.count_core.specs.declared.faults.CoreFault.TheVariants.{AtomRange, RepeatedAtom, BadBounds, NoMemory}
use Rattle.count_core.specs.Problems.{repeats, are_within, IsWellFormedRule, first_fault}

-- The fault holds of the rule with this number, and none holds of it that comes before in the order
-- of the faults' numbers.
abbrev pub IsFaultOf : ℕ → ℕ → CountRule → CoreFault → Type 0
IsFaultOf atoms number r (AtomRange rule) = (rule ≡ number) × (are_within atoms r.lits ≡ false)
IsFaultOf atoms number r (RepeatedAtom rule) = (rule ≡ number) × (are_within atoms r.lits ≡ true) × (repeats r.lits ≡ true)
IsFaultOf atoms number r (BadBounds rule) = (rule ≡ number) × (are_within atoms r.lits ≡ true) × (repeats r.lits ≡ false) × (r.hi < r.lo)
IsFaultOf atoms number r NoMemory = ⊥

-- The rule with this number has the fault, and each rule before it is well formed.
pub record IsFirstFault (atoms : ℕ) (rules : List CountRule) (fault : CoreFault) : Type 0 where
  pub number : ℕ
  pub rule : CountRule
  pub is_rule : slice_get rules number ≡ Some rule
  pub before : (k : ℕ) (other : CountRule) → k < number → slice_get rules k ≡ Some other → IsWellFormedRule atoms other
  pub has : IsFaultOf atoms number rule fault

-- Building a problem of rules reports exactly their first fault, and none where each is well formed.
pub record TellsFirstFault : Type 0 where
  pub fault : (atoms : ℕ) (rules : List CountRule) (fault : CoreFault) → (first_fault atoms 0 rules ≡ Some fault) ↔ IsFirstFault atoms rules fault
  pub none : (atoms : ℕ) (rules : List CountRule) → (first_fault atoms 0 rules ≡ None) ↔ AllByRecursion (IsWellFormedRule atoms) rules
