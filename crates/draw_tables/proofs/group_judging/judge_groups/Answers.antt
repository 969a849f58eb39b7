use Rattle.draw_tables.proofs.GroupJudgements.{below_2, below_3, below_4, below_5, below_6, judged_groups_1, judged_groups_2, judged_groups_3, judged_groups_4, judged_groups_5, judged_groups_legal}
use Rattle.draw_tables.proofs.group_judging.judge_groups.Goals as goal

pub returns-in-Some : goal.returns-in-Some
returns-in-Some c = judged_groups_1 c.args.file.now c.args.places.now c.broken_by.result c.in-Some.number c.in-Some.ensures c.broken_by.ensures

pub returns-in-Some-first_breach : goal.returns-in-Some-first_breach
returns-in-Some-first_breach c =
    judged_groups_2 c.args.file.now c.args.places.now c.broken_by-in-Some-first_breach.result c.in-Some-first_breach.found
    (below_2 c.args.file.now c.args.places.now c.in_default.ensures)
    c.in-Some-first_breach.ensures c.broken_by-in-Some-first_breach.ensures

pub returns-in-Some-first_breach-2 : goal.returns-in-Some-first_breach-2
returns-in-Some-first_breach-2 c =
    judged_groups_3 c.args.file.now c.args.places.now c.broken_by-in-Some-first_breach-2.result c.in-Some-first_breach-2.found
    (below_3 c.args.file.now c.args.places.now (below_2 c.args.file.now c.args.places.now c.in_default.ensures) c.in_default-first_breach.ensures)
    c.in-Some-first_breach-2.ensures c.broken_by-in-Some-first_breach-2.ensures

pub returns-in-Some-first_together : goal.returns-in-Some-first_together
returns-in-Some-first_together c =
    let below = below_3 c.args.file.now c.args.places.now (below_2 c.args.file.now c.args.places.now c.in_default.ensures) c.in_default-first_breach.ensures in
    judged_groups_4 c.args.file.now c.args.places.now c.broken_by-in-Some-first_together.result c.in-Some-first_together.found
    (below_4 c.args.file.now c.args.places.now below c.in_default-first_breach-2.ensures)
    c.in-Some-first_together.ensures c.broken_by-in-Some-first_together.ensures

pub returns-in-Some-first_breach-3 : goal.returns-in-Some-first_breach-3
returns-in-Some-first_breach-3 c =
    let below = below_3 c.args.file.now c.args.places.now (below_2 c.args.file.now c.args.places.now c.in_default.ensures) c.in_default-first_breach.ensures in
    let below = below_4 c.args.file.now c.args.places.now below c.in_default-first_breach-2.ensures in
    judged_groups_5 c.args.file.now c.args.places.now c.broken_by-in-Some-first_breach-3.result c.in-Some-first_breach-3.found
    (below_5 c.args.file.now c.args.places.now below c.in_default-first_together.ensures)
    c.in-Some-first_breach-3.ensures c.broken_by-in-Some-first_breach-3.ensures

pub returns : goal.returns
returns c =
    let below = below_3 c.args.file.now c.args.places.now (below_2 c.args.file.now c.args.places.now c.in_default.ensures) c.in_default-first_breach.ensures in
    let below = below_4 c.args.file.now c.args.places.now below c.in_default-first_breach-2.ensures in
    let below = below_5 c.args.file.now c.args.places.now below c.in_default-first_together.ensures in
    judged_groups_legal c.args.file.now c.args.places.now c.expect_form.ensures.form c.requires (below_6 c.args.file.now c.args.places.now below c.in_default-first_breach-3.ensures)
