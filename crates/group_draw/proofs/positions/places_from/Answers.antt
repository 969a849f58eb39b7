use Rattle.std.proofs.Common.{[]}
use Rattle.list_counts.proofs.Ones.{more}
use Rattle.group_draw.specs.Decoding.{place_from}
use Rattle.group_draw.proofs.positions.places_from.Goals as goal

pub loop-place-preserved : goal.loop-place-preserved
loop-place-preserved c = more (place_from c.args.file.now c.args.groups.now c.args.positions.now) c.loop-place.place [] _ _ _ c.loop-place.invariant c.place_from.ensures c.in_ok-push.ensures.items
