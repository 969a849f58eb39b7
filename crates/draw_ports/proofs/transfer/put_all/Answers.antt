use Rattle.std.proofs.Common.{arith, ◌∙◌}
use Rattle.std.proofs.lemmas.Grind.{common_steps}
use Rattle.std.proofs.lemmas.List.{take_rest}
use Rattle.draw_ports.proofs.Bytes.{Appends-next}
use Rattle.draw_ports.proofs.transfer.put_all.Goals as goal

pub loop-done-preserved : goal.loop-done-preserved
loop-done-preserved g c =
    record {
      within = grind (arith, common_steps, c.in-Ok.ensures.bound);
      sent = Appends-next _ _ _ _ _ _ c.loop-done.invariant.sent (rw take_rest at c.in-Ok.ensures.bytes);
      quiet = c.in-Ok.ensures.cause.kept ∙ c.loop-done.invariant.quiet;
    }
