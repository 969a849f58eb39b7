use Rattle.std.proofs.Common.{ap, ◌∙◌}
use Rattle.group_draw.specs.Decoding.{filled_places}
use Rattle.group_draw.proofs.Existence.{decoded, have_groups}
use Rattle.group_draw.proofs.FilledPlaces.{groups_of_file}
use Rattle.group_draw.proofs.FixedPlaces.{has_pots}
use Rattle.group_draw.proofs.decoding.decode.Goals as goal

pub true_groups-requires-clause-each : goal.true_groups-requires-clause-each
true_groups-requires-clause-each c = have_groups c.args.file.now c.requires.kind c.form_of.ensures.form c.args.values.now c.requires.rules

pub filled_places-requires-clause-pots : goal.filled_places-requires-clause-pots
filled_places-requires-clause-pots c = has_pots c.args.file.now c.requires.kind c.form_of.ensures.form

pub filled_places-requires-clause-groups : goal.filled_places-requires-clause-groups
filled_places-requires-clause-groups c = rw c.deref.ensures.value (groups_of_file c.args.file.now c.args.values.now _ c.in_ok-groups.ensures)

pub returns : goal.returns
returns c =
    let is = c.new.ensures ∙ c.in_ok-places.ensures ∙ ap (filled_places c.args.file.now c.args.moves.now) c.deref.ensures.value in
    let made = decoded c.args.file.now c.requires.kind c.form_of.ensures.form c.args.moves.now c.args.values.now c.requires.state c.requires.clean c.requires.rules c.requires.moves _ c.in_ok-groups.ensures c.new.result.places is in
    record {
      legal = (c.requires.kind, made.legal);
      of_file = record { kind = c.requires.kind; size = made.legal.size };
      extends = made.extends;
      groups = made.read;
      positions = made.is_filled;
    }
