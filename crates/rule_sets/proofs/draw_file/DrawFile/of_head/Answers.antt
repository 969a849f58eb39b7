use Rattle.rule_sets.proofs.draw_file.DrawFile.of_head.Goals as goal

pub invariant_of-result : goal.invariant_of-result
invariant_of-result c = (
  c.args.head,
  c.kind.ensures.read,
  rw c.kind.ensures.kind (rw c.groups.ensures (rw c.pots.ensures (rw c.into_teams.ensures c.requires))),
)
