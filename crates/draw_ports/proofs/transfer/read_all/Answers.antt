use Rattle.draw_ports.proofs.Bytes.{TakesSome-next}
use Rattle.draw_ports.proofs.transfer.read_all.Goals as goal

pub returns-then-count-limit-clause-taken : goal.returns-then-count-limit-clause-taken
returns-then-count-limit-clause-taken g c =
    TakesSome-next _ _ _ _ _ c.loop-count.invariant.taken c.in-Ok.ensures.bytes.0

pub returns-then-is_err-clause-taken : goal.returns-then-is_err-clause-taken
returns-then-is_err-clause-taken g c =
    TakesSome-next _ _ _ _ _ c.loop-count.invariant.taken c.in-Ok.ensures.bytes.0
