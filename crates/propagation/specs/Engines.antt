-- What contracts see of an engine, and what its answers mean.
use Rattle.std.specs.Prelude.{◌≡◌, ◌≢◌, ℕ, ◌≤◌, true, None, List, ◌++◌, replicate}
use Rattle.std.specs.List.{AllByRecursion}
use Rattle.count_core.specs.declared.hint.Hint.{Hint}
use Rattle.count_core.specs.declared.count_rule.CountRule.{CountRule}
use Rattle.count_core.specs.Problems.{Problem}
use Rattle.count_core.specs.PartialAssignments.{PartialAssignment, conflicts}
use Rattle.propagation.specs.declared.clause.Clause.{Clause}
use Rattle.propagation.specs.Trails.{Entry, values_of}
use Rattle.propagation.specs.Constraints.{constraints_of, IsNamed, IsQuietConstraint}
use Rattle.propagation.specs.Causes.{AreCaused, AllFollow}
use Rattle.propagation.specs.Firings.{Firing, AreFirings, entries_fired}

-- A problem, the clauses that were added, the entries of the trail, and for how many there is room.
pub record Engine : Type 0 where
  pub problem : Problem
  pub clauses : List Clause
  pub entries : List Entry
  pub room : ℕ

-- what is set
abbrev pub values_in : Engine → PartialAssignment
values_in e = values_of e.problem.atoms e.entries

-- all that is propagated
abbrev pub constraints_in : Engine → List CountRule
constraints_in e = constraints_of e.problem e.clauses

-- No rule and no added clause conflicts, and none forces.
abbrev pub AllQuiet : Engine → Type 0
AllQuiet e = AllByRecursion (IsQuietConstraint (values_in e)) (constraints_in e)

-- There is room for an entry of each atom.
abbrev pub HasRoom : Engine → Type 0
HasRoom e = e.problem.atoms ≤ e.room

-- Problem and clauses stay, and there is no less room.
pub record OnlyTrailDiffers (old new : Engine) : Type 0 where
  pub problem : new.problem ≡ old.problem
  pub clauses : new.clauses ≡ old.clauses
  pub room : old.room ≤ new.room

-- Each literal was assumed or is forced by its cause from those before it, and follows.
pub record IsSound (e : Engine) : Type 0 where
  pub caused : AreCaused e.problem e.clauses (replicate e.problem.atoms None) e.entries
  pub follow : AllFollow e.problem e.entries

-- The trail grew by the entries of constraints that forced one after the other, and by no other.
abbrev pub IsPropagated : Engine → Engine → Type 0
IsPropagated old new =
    (fs : List Firing)
    × AreFirings old.problem old.clauses (values_in old) fs
    × (new.entries ≡ old.entries ++ entries_fired (values_in old) fs)

-- Entries were added at the end, none of which was assumed.
abbrev pub AddsForced : List Entry → List Entry → Type 0
AddsForced old new =
    (es : List Entry) × (new ≡ old ++ es) × AllByRecursion (λ (e : Entry). e.cause ≢ None) es

-- The hint names a constraint that conflicts.
abbrev pub IsConflict : Engine → Hint → Type 0
IsConflict e h =
    (r : CountRule) × IsNamed e.problem e.clauses h r
    × (conflicts (values_in e) r.lits r.lo r.hi ≡ true)
