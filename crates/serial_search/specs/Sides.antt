-- One side of the search: what holds before and after it.
use Rattle.std.specs.Prelude.{◌≡◌, ℕ, ◌<◌, ◌≤◌, take, List, [], ◌∷◌, ◌++◌, length, Bool, false, Option, Some, None, slice_get, map, Contains}
use Rattle.std.specs.List.{AllByRecursion}
use Rattle.std.specs.Option.{unwrap_or}
use Rattle.count_core.specs.declared.lit.Lit.{Lit}
use Rattle.count_core.specs.declared.step.Step.{Step}
use Rattle.count_core.specs.Assignments.{negation}
use Rattle.count_core.specs.Steps.{NegatesOnly}
use Rattle.count_core.specs.PartialAssignments.{PartialAssignment}
use Rattle.refutations.specs.Derivations.{Derivation, clause_at}
use Rattle.refutations.specs.Joins.{AreContinued}
use Rattle.propagation.specs.declared.clause.Clause.{Clause}
use Rattle.propagation.specs.Trails.{Entry}
use Rattle.propagation.specs.Engines.{Engine, AllQuiet, HasRoom, values_in}
use Rattle.serial_search.specs.Assumptions.{assumed_of}
use Rattle.serial_search.specs.declared.side.Side.{Side}
use Rattle.serial_search.specs.declared.side.Side.TheVariants.{Found, Closed, Stopped}

-- A clause that was added is that of its step.
abbrev pub IsOfStep : List Step → Clause → Type 0
IsOfStep steps c = (s : Step) × (slice_get steps c.step ≡ Some s) × (s.clause ≡ c.lits)

-- Log and engine are of one problem, the clauses that were added are those of the log's steps, and
-- the engine has room for each atom.
pub record AreLinked (log : Derivation) (e : Engine) : Type 0 where
  pub problem : e.problem ≡ log.problem
  pub clauses : AllByRecursion (IsOfStep log.steps) e.clauses
  pub room : HasRoom e

-- The log is the older one with steps added.
pub record IsContinued (old new : Derivation) : Type 0 where
  pub problem : new.problem ≡ old.problem
  pub steps : AreContinued old.steps new.steps

-- The trail is the older one with entries added.
pub record IsLonger (old new : List Entry) : Type 0 where
  pub more : List Entry
  pub entries : new ≡ old ++ more

-- The first n entries are there and as before.
pub record KeepsFront (n : ℕ) (old new : List Entry) : Type 0 where
  pub front : take n new ≡ take n old
  pub within : n ≤ length new

-- The step is there, and its clause holds only negations of the literals.
pub record IsClosedBy (log : Derivation) (lits : List Lit) (n : ℕ) : Type 0 where
  pub within : n < length log.steps
  pub negates : NegatesOnly lits (clause_at log.steps n)

-- No atom is unset.
abbrev pub AreAllSet : PartialAssignment → Type 0
AreAllSet p = (a : ℕ) → ¬ (slice_get p a ≡ Some None)

-- Each atom is set, and no rule conflicts.
pub record IsComplete (e : Engine) : Type 0 where
  pub quiet : AllQuiet e
  pub all_set : AreAllSet (values_in e)

-- Each atom is set and no rule conflicts; or a step closes what was assumed; or nothing is known.
abbrev pub IsSide : Derivation → Engine → List Lit → Side → Type 0
IsSide log e assumed Found = IsComplete e
IsSide log e assumed (Closed n) = IsClosedBy log assumed n
IsSide log e assumed Stopped = Unit {0}

-- Each literal of the question was assumed.
abbrev pub AreAsked : List Lit → List Entry → Type 0
AreAsked question es = (l : Lit) → Contains question l → Contains (assumed_of es) l

-- the values, with false for an unset atom
abbrev pub totals : PartialAssignment → List Bool
totals p = map (λ o. unwrap_or o false) p

-- The first step closes what was assumed with the split, and the second with its negation.
pub record AreClosedSides (log : Derivation) (lits : List Lit) (split : Lit) (first second : ℕ) : Type 0 where
  pub first_negates : NegatesOnly (lits ++ split ∷ []) (clause_at log.steps first)
  pub second_negates : NegatesOnly (lits ++ negation split ∷ []) (clause_at log.steps second)
