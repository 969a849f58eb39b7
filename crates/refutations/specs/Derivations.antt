-- Logs, lemmas and closed questions, as contracts see them. What an accepted step, an accepted list, a
-- refutation and a clause that follows are, count_core says.
use Rattle.std.specs.Prelude.{◌≡◌, ℕ, ◌-◌, ◌<◌, List, [], ◌∷◌, ◌++◌, length, Option, Some, None, slice_get}
use Rattle.count_core.specs.declared.lit.Lit.{Lit}
use Rattle.count_core.specs.declared.hint.Hint.{Hint}
use Rattle.count_core.specs.declared.step.Step.{Step}
use Rattle.count_core.specs.Problems.{Problem}
use Rattle.count_core.specs.Steps.{step_of, IsAccepted, AreAccepted, failing_hint}

-- A problem, and steps over it. A log and a lemma are seen as one.
pub record Derivation : Type 0 where
  pub problem : Problem
  pub steps : List Step

-- A problem, a question, and steps over the problem. A closed question is seen as one.
pub record Closing : Type 0 where
  pub problem : Problem
  pub question : List Lit
  pub steps : List Step

-- a closing of these parts
abbrev pub closing_of : Problem → List Lit → List Step → Closing
closing_of problem question steps = record { problem = problem; question = question; steps = steps }

-- the clause of a step that is there, and else none
abbrev pub clause_of : Option Step → List Lit
clause_of None = []
clause_of (Some s) = s.clause

-- the clause of the step with this number
abbrev pub clause_at : List Step → ℕ → List Lit
clause_at steps n = clause_of (slice_get steps n)

-- the clause of the last step
abbrev pub last_clause : List Step → List Lit
last_clause steps = clause_at steps (length steps - 1)

-- The step of this clause and these hints is accepted after the steps so far.
abbrev pub Accepts : Derivation → List Lit → List Hint → Type 0
Accepts log clause hints = IsAccepted log.problem log.steps (step_of clause hints)

-- It is not, and n is its failing hint.
abbrev pub FailsAt : Derivation → List Lit → List Hint → ℕ → Type 0
FailsAt log clause hints n = failing_hint log.problem log.steps (step_of clause hints) ≡ Some n

-- The steps are the old ones, and the step of this clause and these hints behind them.
abbrev pub IsPushed : List Step → List Step → List Lit → List Hint → Type 0
IsPushed old new clause hints = new ≡ old ++ step_of clause hints ∷ []

-- The last of the steps has the clause that step n of the others has.
abbrev pub EndsWithClause : List Step → List Step → ℕ → Type 0
EndsWithClause steps others n = last_clause steps ≡ clause_at others n

-- A lemma: an accepted list of at least one step, from the rules alone.
pub record IsLemma (problem : Problem) (steps : List Step) : Type 0 where
  pub accepted : AreAccepted problem steps
  pub some : 0 < length steps
