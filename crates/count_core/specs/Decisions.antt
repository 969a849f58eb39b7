-- That it is decided whether a problem with a question is satisfiable.
use Rattle.std.specs.Prelude.{◌⊎◌, Bool, List}
use Rattle.count_core.specs.declared.lit.Lit.{Lit}
use Rattle.count_core.specs.Problems.{Problem}
use Rattle.count_core.specs.Assignments.{Satisfies, SatisfiesQuestion}

-- The fact holds or it does not, and it is known which.
abbrev pub Decided : Type 0 → Type 0
Decided P = P ⊎ (¬ P)

-- Some assignment satisfies the problem and the question.
abbrev pub IsSatisfiable : Problem → List Lit → Type 0
IsSatisfiable problem question = (values : List Bool) × Satisfies values problem × SatisfiesQuestion values question

-- A problem with a question is satisfied by some assignment or by none: finitely many atoms stand in
-- it.
abbrev pub SatisfiabilityDecides : Type 0
SatisfiabilityDecides = (problem : Problem) (question : List Lit) → Decided (IsSatisfiable problem question)
