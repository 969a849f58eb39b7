use Rattle.std.proofs.Common.{[], ◌++◌, arith, ap, ◌∙◌}
use Rattle.list_counts.specs.Filling.{filled}
use Rattle.list_counts.proofs.Ones.{joined_more}
use Rattle.group_draw.specs.Decoding.{wishes_in}
use Rattle.group_draw.proofs.FilledPlaces.{wishes_size}
use Rattle.group_draw.proofs.positions.fillings.Goals as goal

pub filled-requires : goal.filled-requires
filled-requires c =
    let few = c.requires.pots.few_pots in
    rw (c.deref.ensures.value, c.in_ok-wishes.ensures, wishes_size c.args.file.now c.requires.pots c.args.moves.now c.args.groups.now c.loop-group.group) (omega arith)

pub loop-group-preserved : goal.loop-group-preserved
loop-group-preserved c =
    let filling = c.in_ok-filling.ensures ∙ ap filled (c.deref.ensures.value ∙ c.in_ok-wishes.ensures) in
    joined_more (λ group. filled (wishes_in c.args.file.now c.args.moves.now c.args.groups.now group)) c.loop-group.group [] _ _ c.loop-group.invariant
    (c.in_ok-extend_from_slice.ensures.items ∙ ap (λ ps. c.loop-group.positions.items ++ ps) (c.deref-in-loop-group.ensures.value ∙ filling))
