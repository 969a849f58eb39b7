use Rattle.std.proofs.Common.{List, ℕ}
use Rattle.rule_sets.specs.Files.{DrawFile, IsFileOf}
use Rattle.draw_lines.specs.Inputs.{head_of, command_lines}
use Rattle.draw_top.specs.declared.checking.Report.{Report}
use Rattle.draw_top.specs.declared.checking.Report.TheVariants.{Legal, NotValid, Refused}
use Rattle.draw_top.specs.Reports.{IsTableReport, IsReportOf}
use Rattle.draw_top.proofs.checking.report_of.Goals as goal

-- what is said of the file and the lines is said of the input
of_input : (input : List ℕ) (file : DrawFile) (report : Report) → IsFileOf (head_of input) file → IsTableReport file (command_lines input) report → IsReportOf input report
of_input input file Legal is h = (file, is, h)
of_input input file (NotValid line) is h = (file, is, h)
of_input input file (Refused line) is h = absurd h

pub returns-in_ok-report-in-Ok : goal.returns-in_ok-report-in-Ok
returns-in_ok-report-in-Ok c =
    of_input c.args.input.now c.in-Ok.file c.in_ok-report-in-Ok.report (rw c.split_input.ensures.head at c.in-Ok.ensures.ok) (rw c.split_input.ensures.rest at c.in_ok-report-in-Ok.ensures)

pub returns-in_ok-line-in-Err : goal.returns-in_ok-line-in-Err
returns-in_ok-line-in-Err c = (c.in-Err.fault, rw c.split_input.ensures.head at (c.in-Err.ensures.fault c.in_ok-line-in-Err.ensures.fault), c.in_ok-line-in-Err.ensures.line)
