-- What stands in front of a text, and what follows it.
use Rattle.std.specs.Prelude.{◌≡◌, ℕ, ◌<◌, ◌⊎◌, length, slice_index, Bool, if◌then◌else◌, List, [], ◌∷◌, ◌++◌, codes, flat_map}
use Rattle.std.specs.Fmt.{decimal}
use Rattle.std.specs.Int.{IsInRange}
use Rattle.std.specs.List.{AllByRecursion}
use Rattle.count_core.specs.declared.lit.Lit.{Lit}
use Rattle.count_core.specs.declared.hint.Hint.{Hint}
use Rattle.count_core.specs.declared.count_rule.CountRule.{CountRule}
use Rattle.count_core.specs.declared.step.Step.{Step}
use Rattle.list_texts.specs.ListTexts.{FitsNumber, FitsLit, FitsHint, FitsRule, FitsStep, FitsQuestion, lit_text, hint_text, atoms_line, rule_line, step_line, question_line}

-- no digit stands in front
abbrev pub EndsNumber : List ℕ → Type 0
EndsNumber [] = Unit {0}
EndsNumber (b ∷ bs) = IsInRange 48 57 b → ⊥

-- anything may follow
abbrev pub EndsLine : List ℕ → Type 0
EndsLine rest = Unit {0}

-- The text begins with that of x, which fits, and rest follows, which may follow it.
pub record InFront {A : Type 0} (text_of : A → List ℕ) (Fits : A → Type 0) (Ends : List ℕ → Type 0) (text : List ℕ) (x : A) (rest : List ℕ) : Type 0 where
  pub whole : text ≡ text_of x ++ rest
  pub fits : Fits x
  pub ends : Ends rest

-- Nothing of the kind stands in front of the text.
abbrev pub NoneInFront : {A : Type 0} → (A → List ℕ) → (A → Type 0) → (List ℕ → Type 0) → List ℕ → Type 0
NoneInFront {A} text_of Fits Ends text = (x : A) (rest : List ℕ) → InFront text_of Fits Ends text x rest → ⊥

-- behind one at least, what ends it
abbrev pub EndsAfter : {A : Type 0} → (List ℕ → Type 0) → List A → List ℕ → Type 0
EndsAfter Ends [] rest = Unit {0}
EndsAfter Ends (x ∷ xs) rest = Ends rest

-- The text begins with those of xs, one after another, and rest follows.
pub record SomeInFront {A : Type 0} (text_of : A → List ℕ) (Fits : A → Type 0) (Ends : List ℕ → Type 0) (text : List ℕ) (xs : List A) (rest : List ℕ) : Type 0 where
  pub whole : text ≡ flat_map text_of xs ++ rest
  pub fits : AllByRecursion Fits xs
  pub ends : EndsAfter Ends xs rest

-- The same, and no further one stands in front of the rest.
pub record AllInFront {A : Type 0} (text_of : A → List ℕ) (Fits : A → Type 0) (Ends : List ℕ → Type 0) (text : List ℕ) (xs : List A) (rest : List ℕ) : Type 0 where
  pub some : SomeInFront text_of Fits Ends text xs rest
  pub last : NoneInFront text_of Fits Ends rest

-- ---- the kinds

-- the byte, and what follows it; and that it does not stand in front
abbrev pub IsByteAt : ℕ → List ℕ → List ℕ → Type 0
IsByteAt byte text rest = text ≡ byte ∷ rest

abbrev pub NoByteAt : ℕ → List ℕ → Type 0
NoByteAt byte text = (rest : List ℕ) → IsByteAt byte text rest → ⊥

-- the slash behind one space, and what follows it; and that it does not stand in front
abbrev pub IsSlashAt : List ℕ → List ℕ → Type 0
IsSlashAt text rest = text ≡ 32 ∷ 47 ∷ rest

abbrev pub NoSlashAt : List ℕ → Type 0
NoSlashAt text = (rest : List ℕ) → IsSlashAt text rest → ⊥

-- there are digits, and no leading zero
abbrev pub BeginAsNumber : List ℕ → Type 0
BeginAsNumber digits = (0 < length digits) × (slice_index digits 0 ≡ 48 → length digits ≡ 1)

-- there are none, or a leading zero
abbrev pub DoNotBeginAsNumber : List ℕ → Type 0
DoNotBeginAsNumber digits = (length digits ≡ 0) ⊎ ((slice_index digits 0 ≡ 48) × (1 < length digits))

-- the digits are those of the number, which is below the bound
abbrev pub AreDigitsOf : ℕ → List ℕ → ℕ → Type 0
AreDigitsOf bound digits number = (digits ≡ decimal number) × (number < bound)

-- the digits of no number below the bound
abbrev pub AreNoDigits : ℕ → List ℕ → Type 0
AreNoDigits bound digits = (number : ℕ) → AreDigitsOf bound digits number → ⊥

-- a number, and what follows its last digit; and that none stands in front
abbrev pub IsNumberAt : List ℕ → ℕ → List ℕ → Type 0
IsNumberAt = InFront decimal FitsNumber EndsNumber

abbrev pub NoNumberAt : List ℕ → Type 0
NoNumberAt = NoneInFront decimal FitsNumber EndsNumber

-- a number behind one space, and what follows it; and that none stands in front
abbrev pub spaced_number : ℕ → List ℕ
spaced_number number = 32 ∷ decimal number

abbrev pub IsSpacedNumberAt : List ℕ → ℕ → List ℕ → Type 0
IsSpacedNumberAt = InFront spaced_number FitsNumber EndsNumber

abbrev pub NoSpacedNumberAt : List ℕ → Type 0
NoSpacedNumberAt = NoneInFront spaced_number FitsNumber EndsNumber

-- one byte where b is true, else the other
abbrev pub mark : ℕ → ℕ → Bool → ℕ
mark one other b = if b then one else other

-- a number behind one space and one of two bytes
abbrev pub marked_number : ℕ → ℕ → Bool × ℕ → List ℕ
marked_number one other p = 32 ∷ mark one other p.0 ∷ decimal p.1

-- the number is one that a u32 holds
abbrev pub FitsMarked : Bool × ℕ → Type 0
FitsMarked p = FitsNumber p.1

-- one of two bytes behind one space, and what follows it; and that neither stands there
abbrev pub IsMarkAt : ℕ → ℕ → List ℕ → Bool → List ℕ → Type 0
IsMarkAt one other text b rest = text ≡ 32 ∷ mark one other b ∷ rest

abbrev pub NoMarkAt : ℕ → ℕ → List ℕ → Type 0
NoMarkAt one other text = (b : Bool) (rest : List ℕ) → IsMarkAt one other text b rest → ⊥

-- such a number, and what follows it; and that none stands in front
abbrev pub IsMarkedNumberAt : ℕ → ℕ → List ℕ → Bool × ℕ → List ℕ → Type 0
IsMarkedNumberAt one other = InFront (marked_number one other) FitsMarked EndsNumber

abbrev pub NoMarkedNumberAt : ℕ → ℕ → List ℕ → Type 0
NoMarkedNumberAt one other = NoneInFront (marked_number one other) FitsMarked EndsNumber

-- a literal, and what follows it; and that none stands in front
abbrev pub IsLitAt : List ℕ → Lit → List ℕ → Type 0
IsLitAt = InFront lit_text FitsLit EndsNumber

abbrev pub NoLitAt : List ℕ → Type 0
NoLitAt = NoneInFront lit_text FitsLit EndsNumber

-- a hint, and what follows it; and that none stands in front
abbrev pub IsHintAt : List ℕ → Hint → List ℕ → Type 0
IsHintAt = InFront hint_text FitsHint EndsNumber

abbrev pub NoHintAt : List ℕ → Type 0
NoHintAt = NoneInFront hint_text FitsHint EndsNumber

-- all literals that stand in front
abbrev pub AreLitsAt : List ℕ → List Lit → List ℕ → Type 0
AreLitsAt = AllInFront lit_text FitsLit EndsNumber

-- all hints that stand in front
abbrev pub AreHintsAt : List ℕ → List Hint → List ℕ → Type 0
AreHintsAt = AllInFront hint_text FitsHint EndsNumber

-- the line of the number of atoms, and what follows it; and that none stands in front
abbrev pub AreAtomsAt : List ℕ → ℕ → List ℕ → Type 0
AreAtomsAt = InFront atoms_line FitsNumber EndsLine

abbrev pub NoAtomsAt : List ℕ → Type 0
NoAtomsAt = NoneInFront atoms_line FitsNumber EndsLine

-- what a rule's line begins with: lo and hi
abbrev pub bounds_text : ℕ × ℕ → List ℕ
bounds_text p = codes "r " ++ (decimal p.0 ++ (codes " " ++ decimal p.1))

-- both are numbers that a u32 holds
abbrev pub FitBounds : ℕ × ℕ → Type 0
FitBounds p = FitsNumber p.0 × FitsNumber p.1

-- lo and hi, and what follows them; and that none stand in front
abbrev pub AreBoundsAt : List ℕ → ℕ × ℕ → List ℕ → Type 0
AreBoundsAt = InFront bounds_text FitBounds EndsNumber

abbrev pub NoBoundsAt : List ℕ → Type 0
NoBoundsAt = NoneInFront bounds_text FitBounds EndsNumber

-- the line of a rule, and what follows it; and that none stands in front
abbrev pub IsRuleAt : List ℕ → CountRule → List ℕ → Type 0
IsRuleAt = InFront rule_line FitsRule EndsLine

abbrev pub NoRuleAt : List ℕ → Type 0
NoRuleAt = NoneInFront rule_line FitsRule EndsLine

-- the line of a step, and what follows it; and that none stands in front
abbrev pub IsStepAt : List ℕ → Step → List ℕ → Type 0
IsStepAt = InFront step_line FitsStep EndsLine

abbrev pub NoStepAt : List ℕ → Type 0
NoStepAt = NoneInFront step_line FitsStep EndsLine

-- the line of a question, and what follows it; and that none stands in front
abbrev pub IsQuestionAt : List ℕ → List Lit → List ℕ → Type 0
IsQuestionAt = InFront question_line FitsQuestion EndsLine

abbrev pub NoQuestionAt : List ℕ → Type 0
NoQuestionAt = NoneInFront question_line FitsQuestion EndsLine

-- all lines of rules that stand in front, all of steps, and all of questions
abbrev pub AreRulesAt : List ℕ → List CountRule → List ℕ → Type 0
AreRulesAt = AllInFront rule_line FitsRule EndsLine

abbrev pub AreStepsAt : List ℕ → List Step → List ℕ → Type 0
AreStepsAt = AllInFront step_line FitsStep EndsLine

abbrev pub AreQuestionsAt : List ℕ → List (List Lit) → List ℕ → Type 0
AreQuestionsAt = AllInFront question_line FitsQuestion EndsLine
