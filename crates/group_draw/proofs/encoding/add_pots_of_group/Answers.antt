use Rattle.std.proofs.Common.{◌+◌, arith, ap, ◌∙◌}
use Rattle.list_counts.proofs.Ones.{more_from}
use Rattle.group_draw.specs.Encoding.{pot_rule, between}
use Rattle.group_draw.proofs.encoding.add_pots_of_group.Goals as goal

pub loop-place-preserved : goal.loop-place-preserved
loop-place-preserved c =
    let teams = ap (between 1 1 c.args.file.now c.args.group) (c.deref.ensures.value ∙ c.in_ok-teams.ensures.teams) in
    more_from (pot_rule c.args.file.now c.args.group) 1 c.loop-place.place (c.loop-place.place + 1) _ _ _ _ (omega arith) c.loop-place.invariant (c.in_ok-between.ensures ∙ teams) c.in_ok-push.ensures.items
