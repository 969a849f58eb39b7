use Rattle.std.proofs.Common.{◌<◌, sym, ◌∙◌, arith}
use Rattle.draw_tables.specs.GroupPhases.{has_undrawn}
use Rattle.draw_tables.proofs.Lists.{find_next}
use Rattle.draw_tables.proofs.group_phases.open_pot.Goals as goal

pub loop-place-preserved : goal.loop-place-preserved
loop-place-preserved c =
    let pots = c.pots-place-end.ensures in
    let lt : c.loop-place.place < c.args.file.now.pots = omega arith in
    find_next (has_undrawn c.args.file.now c.args.moves.now) c.loop-place.place c.args.file.now.pots _ lt (sym c.has_undrawn.ensures ∙ c.if-has_undrawn.false) c.loop-place.invariant
