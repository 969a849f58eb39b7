-- What acceptance is, and why a refutation is to be believed.
use Rattle.std.specs.Prelude.{◌≡◌, ◌↔◌, true, List}
use Rattle.std.specs.List.{AllByRecursion}
use Rattle.count_core.specs.declared.lit.Lit.{Lit}
use Rattle.count_core.specs.declared.step.Step.{Step}
use Rattle.count_core.specs.Problems.{Problem}
use Rattle.count_core.specs.Assignments.{Follows}
use Rattle.count_core.specs.Decisions.{IsSatisfiable}
use Rattle.count_core.specs.Steps.{rule_at, assumed_negation, is_clause, LeadToConflict, IsAccepted, AreAccepted, IsRefutation}

-- The clause of each step follows from the problem alone.
abbrev pub AllFollow : Problem → List Step → Type 0
AllFollow problem steps = AllByRecursion (λ (s : Step). Follows problem s.clause) steps

-- Every clause of an accepted list follows.
abbrev pub AcceptedClausesFollow : Type 0
AcceptedClausesFollow = (problem : Problem) (steps : List Step) → AreAccepted problem steps → AllFollow problem steps

-- A question that has a refutation has no assignment that satisfies it and the problem.
abbrev pub RefutedQuestionsFail : Type 0
RefutedQuestionsFail = (problem : Problem) (question : List Lit) (steps : List Step) → IsRefutation problem question steps → ¬ (IsSatisfiable problem question)

-- A step is accepted exactly where its literals are over different atoms of the problem and, with
-- each of them set false, its hints lead to a conflict.
abbrev pub AcceptedByConflict : Type 0
AcceptedByConflict = (problem : Problem) (earlier : List Step) (s : Step) → IsAccepted problem earlier s ↔ ((is_clause problem s.clause ≡ true) × LeadToConflict (rule_at problem earlier) (assumed_negation problem.atoms s.clause) s.hints)
