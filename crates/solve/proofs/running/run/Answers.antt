use Rattle.std.proofs.Common.{refl}
use Rattle.draw_ports.specs.Outside.{outside}
use Rattle.solve.proofs.RowsOfStatuses.{asked, asked_complete, unasked}
use Rattle.solve.proofs.running.run.Goals as goal

pub returns-in_default-clause-ends : goal.returns-in_default-clause-ends
returns-in_default-clause-ends g c = unasked _ _ _ _ c.in_default.ensures refl refl c.finish.ensures

pub returns-clause-ends : goal.returns-clause-ends
returns-clause-ends g c = asked c.in-Some.limit _ _ _ _ c.in-Some.ensures c.answer_source.ensures.ends

pub returns-clause-complete : goal.returns-clause-complete
returns-clause-complete g c =
    let left = g.S.Source.left in
    let wrote = g.K.Sink.wrote in
    let reads = g.S.Source.faults in
    let writes = g.K.Sink.faults in
    let old = outside (left c.args.src.now) (wrote c.args.out.now) (reads c.args.src.now) (writes c.args.out.now) in
    let ran = c.answer_source.new in
    let new = outside (left ran.src) (wrote ran.out) (reads ran.src) (writes ran.out) in
    asked_complete c.in-Some.limit _ _ old new c.in-Some.ensures c.answer_source.ensures.complete
