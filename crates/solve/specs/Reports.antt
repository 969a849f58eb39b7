-- What `solve` writes of the bytes that it reads.
use Rattle.std.specs.Prelude.{◌≡◌, ℕ, ◌<◌, ◌⊎◌, List, ◌++◌, length, codes, Some, None}
use Rattle.std.specs.Fmt.{decimal}
use Rattle.count_core.specs.Limits.{number_limit}
use Rattle.count_core.specs.declared.lit.Lit.{Lit}
use Rattle.count_core.specs.declared.count_rule.CountRule.{CountRule}
use Rattle.count_core.specs.declared.faults.CoreFault.{CoreFault}
use Rattle.count_core.specs.Problems.{Problem, first_fault, problem_of}
use Rattle.list_texts.specs.ListTexts.{IsInquiryText, IsNoInquiryText, IsFirstWrongInquiryLine}
use Rattle.list_texts.specs.Refusals.{no_list_line, fault_line}
use Rattle.solve.specs.declared.questions.QuestionFault.{QuestionFault}
use Rattle.solve.specs.declared.questions.QuestionFault.TheVariants.{AtomRange, RepeatedAtom}
use Rattle.solve.specs.declared.status.Status.{Status}
use Rattle.solve.specs.Questions.{AreAskable, IsFirstFaulty}
use Rattle.solve.specs.Answers.{AreAnswersTo}

-- ---- what may be so of an inquiry

-- Its rules make a problem, of which, with the questions, this is so.
pub record IsProblemWhere (IsSo : Problem → List (List Lit) → Type 0)
    (atoms : ℕ) (rules : List CountRule) (questions : List (List Lit)) : Type 0 where
  pub no_fault : first_fault atoms 0 rules ≡ None
  pub is_so : IsSo (problem_of atoms rules) questions

-- The bytes are the text of an inquiry of which this is so.
abbrev pub IsInquiryWhere : (ℕ → List CountRule → List (List Lit) → Type 0) → List ℕ → Type 0
IsInquiryWhere IsSo bytes = (atoms : ℕ) × (rules : List CountRule) × (questions : List (List Lit))
    × IsInquiryText atoms rules questions bytes × IsSo atoms rules questions

-- each question may be asked of the problem
abbrev pub MayBeAsked : Problem → List (List Lit) → Type 0
MayBeAsked problem questions = AreAskable problem.atoms questions

-- The bytes are the text of an inquiry that may be asked.
abbrev pub IsAskableText : List ℕ → Type 0
IsAskableText bytes = IsInquiryWhere (IsProblemWhere MayBeAsked) bytes

-- The bytes are the text of an inquiry whose rules a u32 does not number.
abbrev pub IsUncountableText : List ℕ → Type 0
IsUncountableText bytes =
    IsInquiryWhere (λ atoms rules questions. ¬ (length rules < number_limit)) bytes

-- ---- what is written

-- the line of the first question that may not be asked
abbrev pub question_line : ℕ → QuestionFault → List ℕ
question_line n AtomRange = codes "question refused " ++ decimal n ++ codes " AtomRange\n"
question_line n RepeatedAtom = codes "question refused " ++ decimal n ++ codes " RepeatedAtom\n"

-- Each question may be asked, and the text answers it.
pub record AreAnswered (text : List ℕ) (problem : Problem) (questions : List (List Lit)) : Type 0 where
  pub may : MayBeAsked problem questions
  pub answers : AreAnswersTo problem questions text

-- The text tells the first question that may not be asked.
abbrev pub TellsQuestion : List ℕ → Problem → List (List Lit) → Type 0
TellsQuestion text problem questions = (n : ℕ) × (fault : QuestionFault)
    × IsFirstFaulty problem.atoms questions n fault × (text ≡ question_line n fault)

-- The text tells the first fault of the rules.
abbrev pub TellsFault : List ℕ → ℕ → List CountRule → List (List Lit) → Type 0
TellsFault text atoms rules questions = (fault : CoreFault)
    × (first_fault atoms 0 rules ≡ Some fault) × (text ≡ fault_line fault)

-- The text tells why none of the questions was asked.
abbrev pub TellsWhyNot : List ℕ → ℕ → List CountRule → List (List Lit) → Type 0
TellsWhyNot text atoms rules questions = TellsFault text atoms rules questions
    ⊎ IsProblemWhere (TellsQuestion text) atoms rules questions

-- The text tells the first wrong line of the bytes, which are no inquiry's text.
abbrev pub TellsNoInquiry : List ℕ → List ℕ → Type 0
TellsNoInquiry bytes text = IsNoInquiryText bytes
    × ((line : ℕ) × IsFirstWrongInquiryLine bytes line × (text ≡ no_list_line line))

-- The text answers each question of the inquiry whose text the bytes are.
abbrev pub IsAnswering : List ℕ → List ℕ → Type 0
IsAnswering bytes text = IsInquiryWhere (IsProblemWhere (AreAnswered text)) bytes

-- The text tells why the bytes are refused.
abbrev pub IsRefusalOf : List ℕ → List ℕ → Type 0
IsRefusalOf bytes text = TellsNoInquiry bytes text ⊎ IsInquiryWhere (TellsWhyNot text) bytes

-- ---- the text by the status that goes with it

-- of the questions of a problem
abbrev pub IsReportFor : Problem → List (List Lit) → Status → List ℕ → Type 0
IsReportFor problem questions Status.Answered text = AreAnswered text problem questions
IsReportFor problem questions Status.Refused text = TellsQuestion text problem questions
IsReportFor problem questions status text = ⊥

-- of an inquiry
abbrev pub IsReportOn : ℕ → List CountRule → List (List Lit) → Status → List ℕ → Type 0
IsReportOn atoms rules questions Status.Answered text =
    IsProblemWhere (AreAnswered text) atoms rules questions
IsReportOn atoms rules questions Status.Refused text = TellsWhyNot text atoms rules questions
IsReportOn atoms rules questions status text = ⊥

-- of bytes
abbrev pub IsReportOf : List ℕ → Status → List ℕ → Type 0
IsReportOf bytes Status.Answered text = IsAnswering bytes text
IsReportOf bytes Status.Refused text = IsRefusalOf bytes text
IsReportOf bytes status text = ⊥

-- why nothing is said of an inquiry with these rules
abbrev pub IsUnsaidOn : List CountRule → Status → Type 0
IsUnsaidOn rules Status.NoMemory = Unit {0}
IsUnsaidOn rules Status.TooLong = ¬ (length rules < number_limit)
IsUnsaidOn rules status = ⊥

-- why nothing is said of bytes
abbrev pub IsUnsaid : List ℕ → Status → Type 0
IsUnsaid bytes Status.NoMemory = Unit {0}
IsUnsaid bytes Status.TooLong = IsUncountableText bytes
IsUnsaid bytes status = ⊥
