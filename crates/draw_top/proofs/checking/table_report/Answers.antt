use Rattle.std.proofs.Common.{inl, refl}
use Rattle.draw_top.proofs.checking.table_report.Goals as goal

pub returns : goal.returns
returns c =
    let found = rw c.in-Some.is at c.in_ok-table.ensures in
    let case = c.in-Broken in
    inl (c.in-Some.table, found, (case.rule, case.first, case.second, c.in-Broken.ensures.broken case.rule case.first case.second refl, c.in_ok-line-in-Broken.ensures))
