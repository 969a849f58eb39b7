-- Constraints with a trail, and what each call leaves as it is.
use Rattle.std.specs.Prelude.{◌≡◌, ℕ, ◌≤◌, ◌<◌, Bool, false, true, List, ◌++◌, length, take, drop, Option, None, slice_index_or, replicate}
use Rattle.std.specs.List.{AllByRecursion}
use Rattle.count_core.specs.declared.lit.Lit.{Lit}
use Rattle.count_core.specs.declared.hint.Hint.{Hint}
use Rattle.count_core.specs.declared.count_rule.CountRule.{CountRule}
use Rattle.count_core.specs.Problems.{Problem, are_within, repeats}
use Rattle.count_core.specs.PartialAssignments.{PartialAssignment, trues, falses, conflicts}
use Rattle.propagation.specs.declared.occurrence.Occurrence.{Occurrence}
use Rattle.propagation.specs.declared.clause.Clause.{Clause}
use Rattle.propagation.specs.Trails.{Entry, values_of}
use Rattle.propagation.specs.Constraints.{constraints_of, constraint_at, hint_at, nth, IsNamed, IsQuietConstraint}
use Rattle.propagation.specs.Causes.{IsCaused, AreCaused}
use Rattle.propagation.specs.Firings.{Firing, AreFirings, entries_fired, entries_setting}
use Rattle.propagation.specs.Statuses.{IsAtBound}
use Rattle.propagation.specs.Occurrences.{OccurrenceList, no_occurrence, items_at, counter, AreListed, AreShort, AreSplit}

-- A problem, the clauses that were added, the entries of the trail, and for how many there is room; the
-- occurrences by atom, and how many of them are in rules of the problem.
pub record Store : Type 0 where
  pub problem : Problem
  pub clauses : List Clause
  pub entries : List Entry
  pub room : ℕ
  pub lists : List OccurrenceList
  pub splits : List ℕ

-- all that is propagated
abbrev pub constraints_in : Store → List CountRule
constraints_in s = constraints_of s.problem s.clauses

-- the constraint with this number
abbrev pub constraint_in : Store → ℕ → CountRule
constraint_in s n = constraint_at s.problem s.clauses n

-- the hint that names it
abbrev pub hint_in : Store → ℕ → Hint
hint_in s n = hint_at s.problem s.clauses n

-- what is set
abbrev pub values_in : Store → PartialAssignment
values_in s = values_of s.problem.atoms s.entries

-- what is read past the end
abbrev pub no_entry : Entry
no_entry = record { lit = record { atom = record { 0 = 0 }; positive = false }; cause = None }

-- the entry at this place
abbrev pub entry_in : Store → ℕ → Entry
entry_in s k = slice_index_or s.entries k no_entry

-- the number of the constraint at this place of the atom's occurrences
abbrev pub listed_at : Store → ℕ → ℕ → ℕ
listed_at s a k = (slice_index_or (items_at s.lists a) k no_occurrence).constraint

-- the constraint at this place of the occurrences of the literal's atom
abbrev pub constraint_listed : Store → Lit → ℕ → CountRule
constraint_listed s l k = constraint_in s (listed_at s l.atom.0 k)

-- the number of rules of the problem
abbrev pub rules_number : Store → ℕ
rules_number s = length s.problem.rules

-- the atom's occurrences in rules of the problem, and in clauses
abbrev pub in_rules : Store → ℕ → List Occurrence
in_rules s a = take (counter s.splits a) (items_at s.lists a)

abbrev pub in_clauses : Store → ℕ → List Occurrence
in_clauses s a = drop (counter s.splits a) (items_at s.lists a)

-- There is room for an entry of each atom.
abbrev pub HasRoom : Store → Type 0
HasRoom s = s.problem.atoms ≤ s.room

-- Each literal was assumed or is forced by its cause.
abbrev pub HasCausedTrail : Store → Type 0
HasCausedTrail s = AreCaused s.problem s.clauses (replicate s.problem.atoms None) s.entries

-- With what is set, the literal was assumed, or a constraint forces it that its cause names.
abbrev pub IsCausedIn : Store → Lit → Option Hint → Type 0
IsCausedIn s l c = IsCaused s.problem s.clauses (values_in s) l c

-- The constraint with this number is quiet.
abbrev pub IsQuietIn : Store → ℕ → Type 0
IsQuietIn s n = IsQuietConstraint (values_in s) (constraint_in s n)

-- The constraint with this number does not conflict, and is at its lower bound (true) or at its upper
-- one (false).
abbrev pub IsAtBoundIn : Store → ℕ → Bool → Type 0
IsAtBoundIn s n b = IsAtBound b (values_in s) (constraint_in s n)

-- All but the entries stays, and there is no less room.
pub record OnlyTrailDiffers (old new : Store) : Type 0 where
  pub problem : new.problem ≡ old.problem
  pub clauses : new.clauses ≡ old.clauses
  pub lists : new.lists ≡ old.lists
  pub splits : new.splits ≡ old.splits
  pub room : old.room ≤ new.room

-- The trail grew by the entries of constraints that forced one after the other.
abbrev pub Grows : Store → Store → Type 0
Grows old new =
    (fs : List Firing)
    × AreFirings old.problem old.clauses (values_in old) fs
    × (new.entries ≡ old.entries ++ entries_fired (values_in old) fs)

-- The hint names a constraint that conflicts.
abbrev pub IsConflict : Store → Hint → Type 0
IsConflict s h =
    (r : CountRule) × IsNamed s.problem s.clauses h r
    × (conflicts (values_in s) r.lits r.lo r.hi ≡ true)

-- the entries once the literals of constraint n from place k on are set, each true or each false
abbrev pub completed : Store → ℕ → Bool → ℕ → List Entry
completed s n b k =
    s.entries ++ entries_setting (hint_in s n) b (values_in s) (drop k (constraint_in s n).lits)

-- The hint of the constraint with this number names it.
abbrev pub IsNumbered : Store → ℕ → Type 0
IsNumbered s n = IsNamed s.problem s.clauses (hint_in s n) (constraint_in s n)

-- ---- what holds of the parts

-- A constraint that can be propagated. A clause without literals has the lower bound 1 and the upper
-- bound 0.
pub record IsShaped (atoms : ℕ) (r : CountRule) : Type 0 where
  pub in_range : are_within atoms r.lits ≡ true
  pub distinct : repeats r.lits ≡ false
  pub bounds : 0 < length r.lits → r.lo ≤ r.hi

-- The true and the false literals of each constraint are counted.
pub record AreCounted (p : PartialAssignment) (rules : List CountRule) (ts fs : List ℕ) : Type 0 where
  pub trues : (n : ℕ) → counter ts n ≡ trues p (nth rules n).lits
  pub falses : (n : ℕ) → counter fs n ≡ falses p (nth rules n).lits
  pub trues_number : length ts ≡ length rules
  pub falses_number : length fs ≡ length rules

-- What holds of the parts of a store.
pub record IsStore (problem : Problem) (clauses : List Clause) (atoms : ℕ) (entries : List Entry) (ts fs : List ℕ) (lists : List OccurrenceList) (splits : List ℕ) : Type 0 where
  pub atoms_are : atoms ≡ problem.atoms
  pub shaped : AllByRecursion (IsShaped problem.atoms) (constraints_of problem clauses)
  pub short : AreShort (constraints_of problem clauses)
  pub counted : AreCounted (values_of problem.atoms entries) (constraints_of problem clauses) ts fs
  pub listed : AreListed problem.atoms (constraints_of problem clauses) lists
  pub split : AreSplit (length problem.rules) splits lists
  pub caused : AreCaused problem clauses (replicate problem.atoms None) entries
