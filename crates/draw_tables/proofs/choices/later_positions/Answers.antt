use Rattle.std.proofs.Common.{◌<◌, ◌-◌, arith}
use Rattle.draw_tables.specs.declared.moves.Choice.{Choice}
use Rattle.draw_tables.proofs.Lists.{range_taken}
use Rattle.draw_tables.proofs.choices.later_positions.Goals as goal

pub loop-place-preserved : goal.loop-place-preserved
loop-place-preserved c =
    let pots = c.pots.ensures in
    let few = c.saturating_sub-place-end.ensures in
    let lt : c.loop-place.place < c.args.file.now.pots - 1 = omega arith in
    range_taken (λ p. Choice.Position p) 2 c.loop-place.place (c.args.file.now.pots - 1) c.loop-place.choices.items c.push.new.self.items _ lt c.in_ok-push.ensures.items c.loop-place.invariant
