-- Which questions may be asked of a problem.
use Rattle.std.specs.Prelude.{◌≡◌, ℕ, true, false, List, take, slice_get, Some}
use Rattle.std.specs.List.{AllByRecursion}
use Rattle.count_core.specs.declared.lit.Lit.{Lit}
use Rattle.count_core.specs.Problems.{are_within, repeats}
use Rattle.solve.specs.declared.questions.QuestionFault.{QuestionFault}
use Rattle.solve.specs.declared.questions.QuestionFault.TheVariants.{AtomRange, RepeatedAtom}

-- The literals are over different atoms, each one of so many.
pub record IsAskable (atoms : ℕ) (lits : List Lit) : Type 0 where
  pub within : are_within atoms lits ≡ true
  pub distinct : repeats lits ≡ false

-- Each question may be asked of a problem with so many atoms.
abbrev pub AreAskable : ℕ → List (List Lit) → Type 0
AreAskable atoms questions = AllByRecursion (IsAskable atoms) questions

-- The first fault of a question: a literal is over no atom of the problem, or two are over one.
abbrev pub HasFault : ℕ → List Lit → QuestionFault → Type 0
HasFault atoms lits AtomRange = are_within atoms lits ≡ false
HasFault atoms lits RepeatedAtom = (are_within atoms lits ≡ true) × (¬ (repeats lits ≡ false))

-- Question n is the first that may not be asked, for this fault.
pub record IsFirstFaulty (atoms : ℕ) (questions : List (List Lit)) (n : ℕ) (fault : QuestionFault)
    : Type 0 where
  pub lits : List Lit
  pub is_there : slice_get questions n ≡ Some lits
  pub fails : HasFault atoms lits fault
  pub before : AreAskable atoms (take n questions)
