use Rattle.std.proofs.Common.{◌∙◌, sym, ap, ◌≡◌, Some, None, rules}
use Rattle.draw_tables.specs.Reading.{places_in}
use Rattle.draw_tables.proofs.ItemSteps.{read_first}
use Rattle.draw_tables.proofs.TableReading.{read_is_places, no_places}
use Rattle.draw_tables.proofs.table_reading.read_groups.Goals as goal

pub returns-in_err-read_places-clause-not_table : goal.returns-in_err-read_places-clause-not_table
returns-in_err-read_places-clause-not_table c = λ e table h.
    let none : places_in c.groups.result c.pots.result c.teams_after_first-more.result c.args.bytes.now ≡ None = search rules in
    no_places c.args.file.now table c.teams_after_first-more.result c.args.bytes.now c.requires c.teams_after_first-more.ensures (rw (c.groups.ensures, c.pots.ensures) at none) h

pub returns-clause-ok : goal.returns-clause-ok
returns-clause-ok c =
    let whole : places_in c.groups.result c.pots.result c.teams_after_first-more.result c.args.bytes.now ≡ Some c.read_places.new.found.items =
    read_first c.new-places.result.items c.read_places.new.found.items _ c.new-places.ensures.items c.in_ok-read_places.ensures.ok in
    let given = whole ∙ ap Some (sym c.new.ensures) in
    read_is_places c.args.file.now c.new.result c.teams_after_first-more.result c.args.bytes.now c.requires c.teams_after_first-more.ensures (rw (c.groups.ensures, c.pots.ensures) at given)
