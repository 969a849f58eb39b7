-- Count problems, and which rules make one.
use Rattle.std.specs.Prelude.{◌≡◌, ◌≢◌, ℕ, ◌+◌, ◌≤◌, ◌<◌, ◌==◌, ◌&&◌, ◌||◌, Bool, true, false, not, nat_lt, List, [], ◌∷◌, length, Option, Some, None, if◌then◌else◌}
use Rattle.std.specs.List.{list_any, list_all, AllByRecursion}
use Rattle.count_core.specs.Limits.{number_limit}
use Rattle.count_core.specs.declared.lit.Lit.{Lit}
use Rattle.count_core.specs.declared.count_rule.CountRule.{CountRule}
use Rattle.count_core.specs.declared.faults.CoreFault.{CoreFault}
use Rattle.count_core.specs.declared.faults.CoreFault.TheVariants.{AtomRange, RepeatedAtom, BadBounds, NoMemory}

-- So many atoms, numbered from 0, and rules over them.
pub record Problem : Type 0 where
  pub atoms : ℕ
  pub rules : List CountRule

-- some literal is over the atom
abbrev pub mentions : ℕ → List Lit → Bool
mentions a lits = list_any (λ l. l.atom.0 == a) lits

-- two literals are over one atom
abbrev pub repeats : List Lit → Bool
repeats [] = false
repeats (l ∷ ls) = mentions l.atom.0 ls || repeats ls

-- each literal is over one of so many atoms
abbrev pub are_within : ℕ → List Lit → Bool
are_within atoms lits = list_all (λ l. nat_lt l.atom.0 atoms) lits

-- the literals are over different atoms, each one of so many
abbrev pub are_distinct_within : ℕ → List Lit → Bool
are_distinct_within atoms lits = are_within atoms lits && not (repeats lits)

-- the problem of these atoms and rules
abbrev pub problem_of : ℕ → List CountRule → Problem
problem_of atoms rules = record { atoms = atoms; rules = rules }

-- A rule of a problem with so many atoms.
pub record IsWellFormedRule (atoms : ℕ) (r : CountRule) : Type 0 where
  pub in_range : are_within atoms r.lits ≡ true
  pub distinct : repeats r.lits ≡ false
  pub bounds : r.lo ≤ r.hi

-- Each rule is one, and a u32 numbers them.
pub record IsWellFormed (problem : Problem) : Type 0 where
  pub rules : AllByRecursion (IsWellFormedRule problem.atoms) problem.rules
  pub few : length problem.rules < number_limit

-- the first fault of the rule with this number
abbrev pub fault_of : ℕ → ℕ → CountRule → Option CoreFault
fault_of atoms n r =
    if are_within atoms r.lits
    then (if repeats r.lits then Some (RepeatedAtom n) else (if nat_lt r.hi r.lo then Some (BadBounds n) else None))
    else Some (AtomRange n)

-- the first of two faults that is there
abbrev pub or_else : Option CoreFault → Option CoreFault → Option CoreFault
or_else None rest = rest
or_else (Some fault) rest = Some fault

-- the first fault of the first rule that has one, where the rules are numbered from n
abbrev pub first_fault : ℕ → ℕ → List CountRule → Option CoreFault
first_fault atoms n [] = None
first_fault atoms n (r ∷ rs) = or_else (fault_of atoms n r) (first_fault atoms (n + 1) rs)

-- The fault is out of memory, or the first fault of the rules.
abbrev pub IsFirstFaultOrNoMemory : ℕ → List CountRule → CoreFault → Type 0
IsFirstFaultOrNoMemory atoms rules fault = fault ≢ NoMemory → first_fault atoms 0 rules ≡ Some fault
