use Rattle.std.proofs.Common.{◌≡◌, length, arith}
use Rattle.draw_tables.proofs.TableReading.{some_team}
use Rattle.draw_tables.proofs.table_reading.teams_after_first.Goals as goal

pub overflow_sub-result : goal.overflow_sub-result
overflow_sub-result c =
    let some = some_team c.args.file.now c.expect_form.ensures.form c.requires in
    let number = c.number.ensures.number in
    let teams = c.teams.ensures in
    let size : c.number.result ≡ length c.args.file.now.teams = cc in
    omega arith

pub returns : goal.returns
returns c =
    let some = some_team c.args.file.now c.expect_form.ensures.form c.requires in
    let number = c.number.ensures.number in
    let teams = c.teams.ensures in
    let size : c.number.result ≡ length c.args.file.now.teams = cc in
    omega arith
