-- What `stepcheck` writes of what it reads.
use Rattle.std.specs.Prelude.{◌≡◌, ℕ, ◌<◌, ◌≤◌, ◌^◌, ◌⊎◌, List, ◌++◌, length, codes, Option, Some, None, IfSome, IsSomeAnd}
use Rattle.std.specs.Fmt.{decimal}
use Rattle.std.specs.Io.KnownBytes.{Appends}
use Rattle.draw_ports.specs.Causes.{AppendsSome}
use Rattle.count_core.specs.declared.count_rule.CountRule.{CountRule}
use Rattle.count_core.specs.declared.step.Step.{Step}
use Rattle.count_core.specs.declared.faults.CoreFault.{CoreFault}
use Rattle.count_core.specs.Problems.{first_fault}
use Rattle.count_core.specs.Steps.{AreAccepted}
use Rattle.cert_checker.specs.Checks.{IsFirstBad}
use Rattle.cert_checker.specs.Countable.{AreCountable}
use Rattle.list_texts.specs.ListTexts.{IsListText, IsNoListText, IsFirstWrongLine}
use Rattle.list_texts.specs.Limits.{AreLimit}
use Rattle.list_texts.specs.Refusals.{no_list_line, fault_line}

-- ---- the words

-- the line that is written where they are not one limit
abbrev pub usage_line : List ℕ
usage_line = codes "usage: stepcheck BYTES\n"

-- ---- what is said of a list

-- its rules make a problem, of which its steps are an accepted list
pub record IsAcceptedList (atoms : ℕ) (rules : List CountRule) (steps : List Step) : Type 0 where
  pub no_fault : first_fault atoms 0 rules ≡ None
  pub accepted : AreAccepted (record { atoms = atoms; rules = rules }) steps

-- its rules make a problem, and step n is the first that is not accepted, with this failing hint
pub record IsBadList (atoms : ℕ) (rules : List CountRule) (steps : List Step) (n hint : ℕ) : Type 0 where
  pub no_fault : first_fault atoms 0 rules ≡ None
  pub bad : IsFirstBad (record { atoms = atoms; rules = rules }) steps n hint

-- a u32 numbers its rules, its steps, and the hints of each
pub record IsCountableList (rules : List CountRule) (steps : List Step) : Type 0 where
  pub rules_few : length rules < 2 ^ 32
  pub steps_few : AreCountable steps

-- ---- what is said of bytes

-- a list of which this is so
abbrev pub IsTextWhere : (ℕ → List CountRule → List Step → Type 0) → List ℕ → Type 0
IsTextWhere IsSo bytes = (atoms : ℕ) × (rules : List CountRule) × (steps : List Step) × IsListText atoms rules steps bytes × IsSo atoms rules steps

-- The bytes are the text of a list that is accepted.
abbrev pub IsAcceptedText : List ℕ → Type 0
IsAcceptedText bytes = IsTextWhere IsAcceptedList bytes

-- The bytes are the text of a list that has this first bad step and failing hint.
abbrev pub IsBadText : List ℕ → ℕ → ℕ → Type 0
IsBadText bytes n hint = IsTextWhere (λ atoms rules steps. IsBadList atoms rules steps n hint) bytes

-- The bytes are the text of a list whose rules have this first fault.
abbrev pub IsFaultyText : List ℕ → CoreFault → Type 0
IsFaultyText bytes fault = IsTextWhere (λ atoms rules steps. first_fault atoms 0 rules ≡ Some fault) bytes

-- The bytes are the text of a list that a u32 does not number.
abbrev pub IsUncountableText : List ℕ → Type 0
IsUncountableText bytes = IsTextWhere (λ atoms rules steps. IsCountableList rules steps → ⊥) bytes

-- ---- what is written of bytes

-- the line of a step and its failing hint
abbrev pub bad_line : ℕ → ℕ → List ℕ
bad_line step hint = codes "bad " ++ (decimal step ++ (codes " " ++ (decimal hint ++ codes "\n")))

-- the text approves of the bytes, which are an accepted list's text
abbrev pub IsApprovalOf : List ℕ → List ℕ → Type 0
IsApprovalOf bytes text = IsAcceptedText bytes × (text ≡ codes "accepted\n")

-- the text tells the first bad step of the list whose text the bytes are
abbrev pub IsObjectionTo : List ℕ → List ℕ → Type 0
IsObjectionTo bytes text = (n : ℕ) × (hint : ℕ) × IsBadText bytes n hint × (text ≡ bad_line n hint)

-- the text tells the first wrong line of the bytes, which are no list's text
abbrev pub TellsNoList : List ℕ → List ℕ → Type 0
TellsNoList bytes text = IsNoListText bytes × ((line : ℕ) × IsFirstWrongLine bytes line × (text ≡ no_list_line line))

-- the text tells the first fault of the rules of the list whose text the bytes are
abbrev pub TellsFault : List ℕ → List ℕ → Type 0
TellsFault bytes text = (fault : CoreFault) × IsFaultyText bytes fault × (text ≡ fault_line fault)

-- the text tells why no step was looked at
abbrev pub IsRefusalOf : List ℕ → List ℕ → Type 0
IsRefusalOf bytes text = TellsNoList bytes text ⊎ TellsFault bytes text

-- the bytes are refused
abbrev pub IsRefused : List ℕ → Type 0
IsRefused bytes = IsNoListText bytes ⊎ ((fault : CoreFault) × IsFaultyText bytes fault)

-- the bytes have a first bad step
abbrev pub HasBadStep : List ℕ → Type 0
HasBadStep bytes = (n : ℕ) × (hint : ℕ) × IsBadText bytes n hint

-- ---- what the sink gained, where the source tells what it held

-- a text that is so of what the source held
abbrev pub Gains : (List ℕ → List ℕ → Type 0) → Option (List ℕ) → Option (List ℕ) → Option (List ℕ) → Type 0
Gains IsSo left old new = IfSome left (λ bytes. (text : List ℕ) × IsSo bytes text × Appends old new text)

-- the line accepted
abbrev pub GainsApproval : Option (List ℕ) → Option (List ℕ) → Option (List ℕ) → Type 0
GainsApproval left old new = Gains IsApprovalOf left old new

-- the line of the first bad step
abbrev pub GainsObjection : Option (List ℕ) → Option (List ℕ) → Option (List ℕ) → Type 0
GainsObjection left old new = Gains IsObjectionTo left old new

-- the line of the first wrong line, or of the rules' first fault
abbrev pub GainsRefusal : Option (List ℕ) → Option (List ℕ) → Option (List ℕ) → Type 0
GainsRefusal left old new = Gains IsRefusalOf left old new

-- some first bytes of what it was to gain
abbrev pub GainsPart : Option (List ℕ) → Option (List ℕ) → Option (List ℕ) → Type 0
GainsPart left old new = IfSome left (λ bytes. (text : List ℕ) × (IsApprovalOf bytes text ⊎ (IsObjectionTo bytes text ⊎ IsRefusalOf bytes text)) × AppendsSome old new text)

-- ---- what the source held, by the limit in the words

-- at most so many bytes
abbrev pub FitsLimit : List (List ℕ) → Option (List ℕ) → Type 0
FitsLimit words left = (limit : ℕ) × AreLimit words limit × IfSome left (λ bytes. length bytes ≤ limit)

-- more bytes than that, or a list that a u32 does not number
abbrev pub IsTooMuch : List (List ℕ) → Option (List ℕ) → Type 0
IsTooMuch words left = (limit : ℕ) × AreLimit words limit × IfSome left (λ bytes. (limit < length bytes) ⊎ IsUncountableText bytes)

-- the source tells that it held at most so many bytes, of which this is so
abbrev pub Holds : (List ℕ → Type 0) → List (List ℕ) → Option (List ℕ) → Type 0
Holds IsSo words left = (limit : ℕ) × AreLimit words limit × IsSomeAnd left (λ bytes. (length bytes ≤ limit) × IsSo bytes)

-- the text of an accepted list
abbrev pub HoldsAccepted : List (List ℕ) → Option (List ℕ) → Type 0
HoldsAccepted words left = Holds IsAcceptedText words left

-- the text of a list with a first bad step
abbrev pub HoldsBad : List (List ℕ) → Option (List ℕ) → Type 0
HoldsBad words left = Holds HasBadStep words left

-- no list's text, or a list's whose rules have a fault
abbrev pub HoldsRefused : List (List ℕ) → Option (List ℕ) → Type 0
HoldsRefused words left = Holds IsRefused words left

-- the source tells that it held more bytes than the limit
abbrev pub HoldsTooMuch : List (List ℕ) → Option (List ℕ) → Type 0
HoldsTooMuch words left = (limit : ℕ) × AreLimit words limit × IsSomeAnd left (λ bytes. limit < length bytes)
