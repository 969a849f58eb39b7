-- The text of a problem and steps or questions (this project's own): one line of the number of atoms,
-- one for each rule, one for each step or question, each with its line feed. Numbers are decimal,
-- without leading zeros.
use Rattle.std.specs.Prelude.{◌≡◌, ℕ, ◌+◌, ◌<◌, ◌^◌, ◌⊎◌, if◌then◌else◌, List, [], ◌∷◌, ◌++◌, length, codes, flat_map}
use Rattle.std.specs.Fmt.{decimal}
use Rattle.std.specs.List.{AllByRecursion}
use Rattle.count_core.specs.declared.lit.Lit.{Lit}
use Rattle.count_core.specs.declared.hint.Hint.{Hint}
use Rattle.count_core.specs.declared.hint.Hint.TheVariants.{Rule, Step as Earlier}
use Rattle.count_core.specs.declared.count_rule.CountRule.{CountRule}
use Rattle.count_core.specs.declared.step.Step.{Step}

-- a literal behind one space: the sign, + where it is positive, and the number of its atom
abbrev pub lit_text : Lit → List ℕ
lit_text lit = 32 ∷ (if lit.positive then 43 else 45) ∷ decimal lit.atom.0

-- a hint behind one space: r and the number of a rule, or s and that of a step
abbrev pub hint_text : Hint → List ℕ
hint_text (Rule number) = codes " r" ++ decimal number
hint_text (Earlier number) = codes " s" ++ decimal number

-- the line of the number of atoms
abbrev pub atoms_line : ℕ → List ℕ
atoms_line atoms = codes "p " ++ (decimal atoms ++ codes "\n")

-- the line of a rule: lo, hi, and its literals
abbrev pub rule_line : CountRule → List ℕ
rule_line rule = codes "r " ++ (decimal rule.lo ++ (codes " " ++ (decimal rule.hi ++ (flat_map lit_text rule.lits ++ codes "\n"))))

-- the line of a step: the literals of its clause, a slash, and its hints
abbrev pub step_line : Step → List ℕ
step_line step = codes "s" ++ (flat_map lit_text step.clause ++ (codes " /" ++ (flat_map hint_text step.hints ++ codes "\n")))

-- the line of a question: its literals
abbrev pub question_line : List Lit → List ℕ
question_line lits = codes "q" ++ (flat_map lit_text lits ++ codes "\n")

-- The text of rules over so many atoms, and of items, by the lines of these.
abbrev pub text_with : {A : Type 0} → (A → List ℕ) → ℕ → List CountRule → List A → List ℕ
text_with line_of atoms rules items = atoms_line atoms ++ (flat_map rule_line rules ++ flat_map line_of items)

-- ---- which numbers a text may have

-- a u32 holds it
abbrev pub FitsNumber : ℕ → Type 0
FitsNumber number = number < 2 ^ 32

-- the number of its atom is one
abbrev pub FitsLit : Lit → Type 0
FitsLit lit = FitsNumber lit.atom.0

-- the number of its rule or step is one
abbrev pub FitsHint : Hint → Type 0
FitsHint (Rule number) = FitsNumber number
FitsHint (Earlier number) = FitsNumber number

-- its bounds and literals are
pub record FitsRule (rule : CountRule) : Type 0 where
  pub lo : FitsNumber rule.lo
  pub hi : FitsNumber rule.hi
  pub lits : AllByRecursion FitsLit rule.lits

-- its literals and hints are
pub record FitsStep (step : Step) : Type 0 where
  pub clause : AllByRecursion FitsLit step.clause
  pub hints : AllByRecursion FitsHint step.hints

-- the numbers of its literals are
abbrev pub FitsQuestion : List Lit → Type 0
FitsQuestion lits = AllByRecursion FitsLit lits

-- ---- which text is of what

-- The bytes are the text of rules over so many atoms, and of items; a u32 holds the numbers.
pub record IsTextWith {A : Type 0} (line_of : A → List ℕ) (Fits : A → Type 0) (atoms : ℕ)
    (rules : List CountRule) (items : List A) (bytes : List ℕ) : Type 0 where
  pub atoms_fit : FitsNumber atoms
  pub rules_fit : AllByRecursion FitsRule rules
  pub items_fit : AllByRecursion Fits items
  pub whole : bytes ≡ text_with line_of atoms rules items

-- Whatever has the bytes as its text is this.
abbrev pub IsOnlyWith : {A : Type 0} → (A → List ℕ) → (A → Type 0) → List ℕ → ℕ → List CountRule → List A → Type 0
IsOnlyWith {A} line_of Fits bytes atoms rules items = (others : ℕ) (more : List CountRule) (further : List A)
    → IsTextWith line_of Fits others more further bytes → (others ≡ atoms) × (more ≡ rules) × (further ≡ items)

-- Nothing has the bytes as its text.
abbrev pub IsNoTextWith : {A : Type 0} → (A → List ℕ) → (A → Type 0) → List ℕ → Type 0
IsNoTextWith {A} line_of Fits bytes = (atoms : ℕ) (rules : List CountRule) (items : List A) → IsTextWith line_of Fits atoms rules items bytes → ⊥

-- ---- the first line that is wrong

-- no line of a number of atoms stands in front of the bytes
abbrev pub NoAtomsLine : List ℕ → Type 0
NoAtomsLine bytes = (atoms : ℕ) (rest : List ℕ) → FitsNumber atoms → bytes ≡ atoms_line atoms ++ rest → ⊥

-- no line of a thing of a kind
abbrev pub NoLineOf : {A : Type 0} → (A → List ℕ) → (A → Type 0) → List ℕ → Type 0
NoLineOf {A} line_of Fits bytes = (x : A) (rest : List ℕ) → Fits x → bytes ≡ line_of x ++ rest → ⊥

-- The lines before this one are a whole text; something follows them, and it begins with the line of no
-- item, and of no rule where a rule may stand.
pub record IsWrongBehind {A : Type 0} (line_of : A → List ℕ) (Fits : A → Type 0) (bytes : List ℕ) (line : ℕ) : Type 0 where
  pub atoms : ℕ
  pub rules : List CountRule
  pub items : List A
  pub before : List ℕ
  pub rest : List ℕ
  pub is_text : IsTextWith line_of Fits atoms rules items before
  pub whole : bytes ≡ before ++ rest
  pub number : line ≡ length rules + length items + 2
  pub left : rest ≡ [] → ⊥
  pub no_item : NoLineOf line_of Fits rest
  pub no_rule : items ≡ [] → NoLineOf rule_line FitsRule rest

-- The line with this number, from 1, is the first that is wrong, or missing.
abbrev pub IsFirstWrongWith : {A : Type 0} → (A → List ℕ) → (A → Type 0) → List ℕ → ℕ → Type 0
IsFirstWrongWith line_of Fits bytes line = ((line ≡ 1) × NoAtomsLine bytes) ⊎ IsWrongBehind line_of Fits bytes line

-- ---- a list: a problem and steps

-- The text of a list of rules over so many atoms, and steps.
abbrev pub list_text : ℕ → List CountRule → List Step → List ℕ
list_text = text_with step_line

-- The bytes are the text of a list whose numbers a u32 holds.
abbrev pub IsListText : ℕ → List CountRule → List Step → List ℕ → Type 0
IsListText = IsTextWith step_line FitsStep

-- Each list whose text the bytes are is this one.
abbrev pub IsOnlyListOf : List ℕ → ℕ → List CountRule → List Step → Type 0
IsOnlyListOf = IsOnlyWith step_line FitsStep

-- The bytes are the text of no list.
abbrev pub IsNoListText : List ℕ → Type 0
IsNoListText = IsNoTextWith step_line FitsStep

-- The line with this number, from 1, is the first that is wrong, or missing.
abbrev pub IsFirstWrongLine : List ℕ → ℕ → Type 0
IsFirstWrongLine = IsFirstWrongWith step_line FitsStep

-- ---- an inquiry: a problem and questions

-- The bytes are the text of an inquiry whose numbers a u32 holds.
abbrev pub IsInquiryText : ℕ → List CountRule → List (List Lit) → List ℕ → Type 0
IsInquiryText = IsTextWith question_line FitsQuestion

-- Each inquiry whose text the bytes are is this one.
abbrev pub IsOnlyInquiryOf : List ℕ → ℕ → List CountRule → List (List Lit) → Type 0
IsOnlyInquiryOf = IsOnlyWith question_line FitsQuestion

-- The bytes are the text of no inquiry.
abbrev pub IsNoInquiryText : List ℕ → Type 0
IsNoInquiryText = IsNoTextWith question_line FitsQuestion

-- The line with this number, from 1, is the first that is wrong, or missing.
abbrev pub IsFirstWrongInquiryLine : List ℕ → ℕ → Type 0
IsFirstWrongInquiryLine = IsFirstWrongWith question_line FitsQuestion
