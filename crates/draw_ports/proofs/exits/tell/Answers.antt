use Rattle.std.proofs.Common.{arith}
use Rattle.draw_ports.proofs.Lines.{told_text}
use Rattle.draw_ports.proofs.exits.tell.Goals as goal

pub returns : goal.returns
returns g c =
    told_text _ c.put_all-2.result _ _ _ (g.E.Sink.wrote c.put_all.new.sink) _ _ (g.E.Sink.faults c.put_all.new.sink) _
    (grind (arith, c.if-is_empty.ensures)) c.in-Ok.ensures.all c.in-Ok.ensures.quiet
    c.put_all-2.ensures.all c.put_all-2.ensures.some c.put_all-2.ensures.write
