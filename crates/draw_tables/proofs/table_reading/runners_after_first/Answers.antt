use Rattle.std.proofs.Common.{◌≡◌, ◌*◌, length, arith}
use Rattle.draw_tables.specs.Pots.{runners_up}
use Rattle.draw_tables.proofs.HalfOfTeams.{half}
use Rattle.draw_tables.proofs.table_reading.runners_after_first.Goals as goal

pub overflow_sub-result : goal.overflow_sub-result
overflow_sub-result c =
    let h = half c.args.file.now c.expect_form.ensures.form.common (c.expect_form.ensures.form.pairing c.requires) in
    let whole = h.0 in
    let some = h.1 in
    let number = c.number.ensures.number in
    let teams = c.teams.ensures in
    let size : c.number.result ≡ 2 * length (runners_up c.args.file.now) = cc in
    omega arith

pub returns : goal.returns
returns c =
    let h = half c.args.file.now c.expect_form.ensures.form.common (c.expect_form.ensures.form.pairing c.requires) in
    let whole = h.0 in
    let some = h.1 in
    let number = c.number.ensures.number in
    let teams = c.teams.ensures in
    let size : c.number.result ≡ 2 * length (runners_up c.args.file.now) = cc in
    omega arith
