-- What contracts see of an answer and of a session, and when an answer is right.
use Rattle.std.specs.Prelude.{◌≡◌, List}
use Rattle.count_core.specs.declared.lit.Lit.{Lit}
use Rattle.count_core.specs.Problems.{Problem}
use Rattle.count_core.specs.Assignments.{Satisfies, SatisfiesQuestion}
use Rattle.count_core.specs.Steps.{IsRefutation}
use Rattle.serial_search.specs.declared.outcome.Outcome.{Outcome}
use Rattle.serial_search.specs.declared.outcome.Outcome.TheVariants.{Possible, Impossible}

-- A problem, a question, and what was found of them. An answer is seen as one.
pub record Answering : Type 0 where
  pub problem : Problem
  pub question : List Lit
  pub outcome : Outcome

-- A session is seen as its problem.
pub record Searching : Type 0 where
  pub problem : Problem

-- an answering of these parts
abbrev pub answering_of : Problem → List Lit → Outcome → Answering
answering_of problem question outcome = record { problem = problem; question = question; outcome = outcome }

abbrev pub IsPossible : Outcome → Type 0
IsPossible (Possible values) = Unit {0}
IsPossible (Impossible closed) = ⊥

abbrev pub IsImpossible : Outcome → Type 0
IsImpossible (Possible values) = ⊥
IsImpossible (Impossible closed) = Unit {0}

-- The values satisfy the problem and the question; or what is closed is the question of the problem,
-- by a refutation.
abbrev pub IsRight : Problem → List Lit → Outcome → Type 0
IsRight problem question (Possible values) = Satisfies values problem × SatisfiesQuestion values question
IsRight problem question (Impossible closed) =
    (closed.problem ≡ problem) × (closed.question ≡ question) × IsRefutation problem question closed.steps
