use Rattle.std.proofs.Common.{◌∙◌, sym, ap, ◌≡◌, Some, None, rules}
use Rattle.draw_tables.specs.Reading.{teams_in}
use Rattle.draw_tables.proofs.ItemSteps.{read_first}
use Rattle.draw_tables.proofs.TableReading.{read_is_text, no_text}
use Rattle.draw_tables.proofs.table_reading.read_pairs.Goals as goal

pub returns-in_err-read_teams-clause-not_table : goal.returns-in_err-read_teams-clause-not_table
returns-in_err-read_teams-clause-not_table c = λ e table h.
    let none : teams_in c.teams.result.now c.runners_after_first-more.result c.args.bytes.now ≡ None = search rules in
    no_text c.args.file.now table c.runners_after_first-more.result c.args.bytes.now c.expect_form.ensures.form c.requires c.runners_after_first-more.ensures (rw c.teams.ensures at none) h

pub returns-clause-ok : goal.returns-clause-ok
returns-clause-ok c =
    let whole : teams_in c.teams.result.now c.runners_after_first-more.result c.args.bytes.now ≡ Some c.read_teams.new.found.items =
    read_first c.new-winners.result.items c.read_teams.new.found.items _ c.new-winners.ensures.items c.in_ok-read_teams.ensures.ok in
    let given = whole ∙ ap Some (sym c.new.ensures) in
    read_is_text c.args.file.now c.new.result c.runners_after_first-more.result c.args.bytes.now c.expect_form.ensures.form c.requires c.runners_after_first-more.ensures (rw c.teams.ensures at given)
