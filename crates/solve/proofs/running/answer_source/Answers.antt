use Rattle.solve.proofs.RowsOfStatuses.{ended, complete}
use Rattle.solve.proofs.running.answer_source.Goals as goal

pub returns-in-Ok-report_of-clause-ends : goal.returns-in-Ok-report_of-clause-ends
returns-in-Ok-report_of-clause-ends g c =
    let report = c.in-Ok-report_of.report in
    let told = rw c.deref.ensures.value at c.in-Ok-report_of.ensures.told in
    let put = rw c.deref-in-Ok-report_of.ensures.value at c.finish.ensures in
    ended c.args.limit c.in-Ok.bytes.items _ _ c.in-Ok.ensures.read report.text.items report.status _ told put

pub returns-in-Ok-report_of-clause-complete : goal.returns-in-Ok-report_of-clause-complete
returns-in-Ok-report_of-clause-complete g c =
    let report = c.in-Ok-report_of.report in
    let told = rw c.deref.ensures.value at c.in-Ok-report_of.ensures.told in
    let put = rw c.deref-in-Ok-report_of.ensures.value at c.finish.ensures in
    complete c.args.limit c.in-Ok.bytes.items _ _ c.in-Ok.ensures.read report.text.items report.status _ told put
