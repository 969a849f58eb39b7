use Rattle.std.proofs.Common.{sym, ◌∙◌, ◌<◌, arith}
use Rattle.std.proofs.lemmas.Bool.{ltb-true, not-true, not_from_false}
use Rattle.draw_tables.proofs.FreeGroups.{is_open_group, open_group_is}
use Rattle.draw_tables.proofs.candidacy.is_open.Goals as goal

pub returns-then-group-groups : goal.returns-then-group-groups
returns-then-group-groups c =
    let groups = c.groups.ensures in
    let lt : c.args.group < c.args.file.now.groups = omega arith in (
      λ e. is_open_group c.args.file.now c.args.moves.now c.args.pot c.args.group lt (sym c.has_placed.ensures ∙ not-true c.has_placed.result e),
      λ h. not_from_false c.has_placed.result (c.has_placed.ensures ∙ (open_group_is c.args.file.now c.args.moves.now c.args.pot c.args.group h).1),
    )

pub returns-else-group-groups : goal.returns-else-group-groups
returns-else-group-groups c = (
  λ e. let lt = ltb-true c.args.group c.groups.result e in absurd (omega arith),
  λ h. let groups = c.groups.ensures in let lt = (open_group_is c.args.file.now c.args.moves.now c.args.pot c.args.group h).0 in absurd (omega arith),
)
