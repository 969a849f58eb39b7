use Rattle.std.proofs.Common.{inl, ap, Err}
use Rattle.stepcheck.proofs.running.report_of.Goals as goal

pub returns-in-Ok-no_list_line-clause-told : goal.returns-in-Ok-no_list_line-clause-told
returns-in-Ok-no_list_line-clause-told c =
    let line = c.in-Err-Line.line in
    inl (c.in-Err-Line.ensures.none line (ap Err c.in-Err-Line.field-0-is), (line, c.in-Err-Line.ensures.first line (ap Err c.in-Err-Line.field-0-is), c.in-Ok-no_list_line.ensures))
