use Rattle.std.proofs.Common.{arith}
use Rattle.draw_ports.proofs.Bytes.{front_taken}
use Rattle.draw_ports.proofs.memory_source.MemorySourceSource.take.Goals as goal

pub returns-clause-bytes : goal.returns-clause-bytes
returns-clause-bytes c =
    let copied = c.copy_from_slice.ensures.after in
    let fields = c.self.inside in
    rw (← c.self.view_is) (front_taken fields.bytes.items c.args.into.now _ fields.at c.min-count.result _ fields.most (rw c.deref-2.ensures.value at copied) fields.bytes.ok.0 c.self.invariant.0 (omega (arith, c.min-count.ensures, c.len.ensures, c.min.ensures)) c.self.invariant.1)
