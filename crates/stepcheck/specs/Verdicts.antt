-- What is said of a list.
use Rattle.std.specs.Prelude.{◌≡◌, ℕ, List, Some}
use Rattle.count_core.specs.declared.count_rule.CountRule.{CountRule}
use Rattle.count_core.specs.declared.step.Step.{Step}
use Rattle.count_core.specs.declared.faults.CoreFault.{CoreFault}
use Rattle.count_core.specs.Problems.{first_fault}
use Rattle.cert_checker.specs.declared.checked.Checked.TheVariants.{Accepted as AllAccepted, Bad as BadStep}
use Rattle.stepcheck.specs.declared.verdict.Verdict.{Verdict}
use Rattle.stepcheck.specs.declared.verdict.Verdict.TheVariants.{Refused as RulesRefused, Checked as StepsChecked}
use Rattle.stepcheck.specs.declared.running.Report.{Report}
use Rattle.stepcheck.specs.declared.running.Report.TheVariants.{Accepted, Bad, Refused}
use Rattle.list_texts.specs.Refusals.{fault_line}
use Rattle.stepcheck.specs.Runs.{IsAcceptedList, IsBadList, IsAcceptedText, IsObjectionTo, IsRefusalOf, bad_line}

-- the verdict is right of the list
abbrev pub IsVerdictOf : ℕ → List CountRule → List Step → Verdict → Type 0
IsVerdictOf atoms rules steps (RulesRefused fault) = first_fault atoms 0 rules ≡ Some fault
IsVerdictOf atoms rules steps (StepsChecked AllAccepted) = IsAcceptedList atoms rules steps
IsVerdictOf atoms rules steps (StepsChecked (BadStep n hint)) = IsBadList atoms rules steps n hint

-- the report is right of the list
abbrev pub IsListReport : ℕ → List CountRule → List Step → Report → Type 0
IsListReport atoms rules steps Accepted = IsAcceptedList atoms rules steps
IsListReport atoms rules steps (Bad line) = (n : ℕ) × (hint : ℕ) × IsBadList atoms rules steps n hint × (line.items ≡ bad_line n hint)
IsListReport atoms rules steps (Refused line) = (fault : CoreFault) × (first_fault atoms 0 rules ≡ Some fault) × (line.items ≡ fault_line fault)

-- the report is right of the bytes
abbrev pub IsReportOf : List ℕ → Report → Type 0
IsReportOf bytes Accepted = IsAcceptedText bytes
IsReportOf bytes (Bad line) = IsObjectionTo bytes line.items
IsReportOf bytes (Refused line) = IsRefusalOf bytes line.items
