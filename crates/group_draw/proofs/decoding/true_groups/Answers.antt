use Rattle.std.proofs.Common.{◌≡◌, Some, rules}
use Rattle.std.proofs.lemmas.Bool.{some_since}
use Rattle.group_draw.proofs.FilledPlaces.{groups_more}
use Rattle.group_draw.proofs.decoding.true_groups.Goals as goal

pub unwrap-requires : goal.unwrap-requires
unwrap-requires c = some_since c.true_group.result _ _ c.true_group.ensures (λ none. none (c.requires.each (record { 0 = c.loop-place.place }) (search rules)))

pub loop-place-preserved : goal.loop-place-preserved
loop-place-preserved c =
    let is : c.true_group.result ≡ Some c.unwrap.result = search rules in
    let more = groups_more c.args.file.now c.args.values.now c.loop-place.place c.loop-place.groups.items _ c.unwrap.result c.loop-place.invariant.size c.loop-place.invariant.atoms (rw is at c.true_group.ensures) c.in_ok-push.ensures.items in
    record { size = more.0; atoms = more.1 }
