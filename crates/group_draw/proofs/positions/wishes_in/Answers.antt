use Rattle.std.proofs.Common.{◌+◌, [], arith}
use Rattle.list_counts.proofs.Ones.{more_from}
use Rattle.group_draw.specs.Decoding.{wish_in}
use Rattle.group_draw.proofs.positions.wishes_in.Goals as goal

pub loop-place-preserved : goal.loop-place-preserved
loop-place-preserved c = more_from (wish_in c.args.file.now c.args.moves.now c.args.groups.now c.args.group) 1 c.loop-place.place (c.loop-place.place + 1) [] _ _ _ (omega arith) c.loop-place.invariant c.in_ok-wish_in.ensures c.in_ok-push.ensures.items
