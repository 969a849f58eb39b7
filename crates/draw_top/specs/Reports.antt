-- What is written for an input of a table.
use Rattle.std.specs.Prelude.{ℕ, List, ◌⊎◌}
use Rattle.rule_sets.specs.Files.{DrawFile}
use Rattle.draw_top.specs.declared.checking.Report.{Report}
use Rattle.draw_top.specs.declared.checking.Report.TheVariants.{Legal, NotValid, Refused}
use Rattle.draw_top.specs.Follow.{IsRefusalOf}
use Rattle.draw_top.specs.Check.{AreLegal, TellsBroken, TellsNoTable, IsLegalInput, IsObjectionTo}

-- what the report says of the file and the lines after its head
abbrev pub IsTableReport : DrawFile → List (List ℕ) → Report → Type 0
IsTableReport file lines Legal = AreLegal file lines
IsTableReport file lines (NotValid line) = TellsBroken file lines line.items ⊎ TellsNoTable file lines line.items
IsTableReport file lines (Refused line) = ⊥

-- what the report says of the input
abbrev pub IsReportOf : List ℕ → Report → Type 0
IsReportOf input Legal = IsLegalInput input
IsReportOf input (NotValid line) = IsObjectionTo input line.items
IsReportOf input (Refused line) = IsRefusalOf input line.items
