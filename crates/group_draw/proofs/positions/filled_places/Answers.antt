use Rattle.std.proofs.Common.{length, map, ap, ◌∙◌}
use Rattle.std.specs.List.{range_with_len}
use Rattle.group_draw.specs.Decoding.{place_from}
use Rattle.group_draw.proofs.FilledPlaces.{fillings_size, places_same}
use Rattle.group_draw.proofs.positions.filled_places.Goals as goal

pub places_from-requires-clause-positions : goal.places_from-requires-clause-positions
places_from-requires-clause-positions c = rw (c.deref.ensures.value, c.in_ok-positions.ensures) (fillings_size c.args.file.now c.requires.pots c.args.moves.now c.args.groups.now)

pub returns : goal.returns
returns c =
    c.in_ok-places.ensures
    ∙ ap (λ ps. map (place_from c.args.file.now c.args.groups.now ps) (range_with_len 0 (length c.args.file.now.teams))) (c.deref.ensures.value ∙ c.in_ok-positions.ensures)
    ∙ places_same c.args.file.now c.requires.pots c.args.moves.now c.args.groups.now c.requires.groups
