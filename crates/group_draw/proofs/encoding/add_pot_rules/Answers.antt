use Rattle.std.proofs.Common.{map}
use Rattle.list_counts.proofs.Ones.{joined_more}
use Rattle.draw_tables.specs.Pots.{pots_of}
use Rattle.group_draw.specs.Encoding.{pot_rule}
use Rattle.group_draw.proofs.encoding.add_pot_rules.Goals as goal

pub loop-group-preserved : goal.loop-group-preserved
loop-group-preserved c = joined_more (λ group. map (pot_rule c.args.file.now group) (pots_of c.args.file.now)) c.loop-group.group _ _ _ c.loop-group.invariant c.in_ok-add_pots_of_group.ensures
