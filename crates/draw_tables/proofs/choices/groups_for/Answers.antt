use Rattle.std.proofs.Common.{◌<◌, not, ap, sym, ◌∙◌, arith}
use Rattle.draw_tables.specs.declared.moves.Choice.{Choice}
use Rattle.draw_tables.specs.GroupPhases.{has_placed}
use Rattle.draw_tables.proofs.Lists.{number_taken, number_passed}
use Rattle.draw_tables.proofs.choices.groups_for.Goals as goal

pub loop-group-preserved-then-has_placed : goal.loop-group-preserved-then-has_placed
loop-group-preserved-then-has_placed c =
    let groups = c.groups-group-end.ensures in
    let lt : c.loop-group.group < c.args.file.now.groups = omega arith in
    number_passed (λ g. Choice.Group g) (λ g. not (has_placed c.args.file.now c.args.moves.now c.in-Some.pot g)) c.loop-group.group c.args.file.now.groups c.loop-group.choices.items _ lt
    (ap not (sym c.has_placed.ensures ∙ c.if-has_placed.true)) c.loop-group.invariant

pub loop-group-preserved : goal.loop-group-preserved
loop-group-preserved c =
    let groups = c.groups-group-end.ensures in
    let lt : c.loop-group.group < c.args.file.now.groups = omega arith in
    number_taken (λ g. Choice.Group g) (λ g. not (has_placed c.args.file.now c.args.moves.now c.in-Some.pot g)) c.loop-group.group c.args.file.now.groups c.loop-group.choices.items _ lt
    c.push.new.self.items (ap not (sym c.has_placed.ensures ∙ c.if-has_placed.false)) c.in_ok-push.ensures.items c.loop-group.invariant
