-- What `solve` writes of questions, and when it is right.
use Rattle.std.specs.Prelude.{◌≡◌, ℕ, ◌⊎◌, Bool, if◌then◌else◌, List, [], ◌∷◌, ◌++◌, codes, flat_map}
use Rattle.count_core.specs.declared.lit.Lit.{Lit}
use Rattle.count_core.specs.declared.step.Step.{Step}
use Rattle.count_core.specs.Problems.{Problem}
use Rattle.count_core.specs.Assignments.{Satisfies, SatisfiesQuestion}
use Rattle.count_core.specs.Decisions.{IsSatisfiable}
use Rattle.count_core.specs.Steps.{IsRefutation}
use Rattle.list_texts.specs.ListTexts.{step_line}

-- ---- the texts of answers

-- a value behind one space: 1 for true, else 0
abbrev pub value_text : Bool → List ℕ
value_text value = 32 ∷ (if value then 49 else 48) ∷ []

-- the line of values by atom, from atom 0
abbrev pub possible_text : List Bool → List ℕ
possible_text values = codes "possible" ++ (flat_map value_text values ++ codes "\n")

-- the line of a refuted question, and those of the steps of the refutation
abbrev pub impossible_text : List Step → List ℕ
impossible_text steps = codes "impossible\n" ++ flat_map step_line steps

-- ---- which text is right of a question

-- The text says values that satisfy the problem and the question.
pub record SaysPossible (problem : Problem) (question : List Lit) (text : List ℕ) : Type 0 where
  pub values : List Bool
  pub satisfies : Satisfies values problem
  pub satisfies_question : SatisfiesQuestion values question
  pub is_text : text ≡ possible_text values

-- No assignment satisfies the problem and the question, and the text says a refutation of them.
pub record SaysImpossible (problem : Problem) (question : List Lit) (text : List ℕ) : Type 0 where
  pub fails : ¬ (IsSatisfiable problem question)
  pub steps : List Step
  pub refutes : IsRefutation problem question steps
  pub is_text : text ≡ impossible_text steps

-- The text is a right answer to the question.
abbrev pub IsAnswerTo : Problem → List Lit → List ℕ → Type 0
IsAnswerTo problem question text =
    SaysPossible problem question text ⊎ SaysImpossible problem question text

-- The text is a right answer to each question, one after another.
abbrev pub AreAnswersTo : Problem → List (List Lit) → List ℕ → Type 0
AreAnswersTo problem [] text = text ≡ []
AreAnswersTo problem (question ∷ questions) text = (first : List ℕ) × (rest : List ℕ)
    × IsAnswerTo problem question first × AreAnswersTo problem questions rest
    × (text ≡ first ++ rest)

-- Such a text was put behind the other.
abbrev pub Grows : (List ℕ → Type 0) → List ℕ → List ℕ → Type 0
Grows IsSo old new = (added : List ℕ) × IsSo added × (new ≡ old ++ added)
