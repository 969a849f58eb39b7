use Rattle.std.proofs.Common.{inl, ap, Err}
use Rattle.solve.proofs.reporting.report_of.Goals as goal

pub returns-in_ok-text-in-Err-Line-clause-told : goal.returns-in_ok-text-in-Err-Line-clause-told
returns-in_ok-text-in-Err-Line-clause-told c =
    let line = c.in-Err-Line.line in
    let told = c.in-Err-Line.ensures in
    inl (told.none line (ap Err c.in-Err-Line.field-0-is), (line, told.first line (ap Err c.in-Err-Line.field-0-is), c.in_ok-text-in-Err-Line.ensures))
