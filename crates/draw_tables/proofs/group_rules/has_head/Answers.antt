use Rattle.std.proofs.Common.{sym, ◌∙◌}
use Rattle.std.specs.Prelude.{◌==◌}
use Rattle.std.proofs.lemmas.Bool.{eq-eqb, ne_eqb}
use Rattle.draw_tables.specs.GroupPasses.{has_place}
use Rattle.draw_tables.proofs.PotSteps.{any_found, any_passed, any_failed}
use Rattle.draw_tables.proofs.group_rules.has_head.Goals as goal

pub loop-place-preserved-then-get-ne1 : goal.loop-place-preserved-then-get-ne1
loop-place-preserved-then-get-ne1 c =
    any_passed (λ t. t.pot == 1) c.loop-place.place c.teams-teams.result.now c.get.result.now c.get.ensures (has_place c.args.places.now c.args.group 1) _ c.loop-place.invariant (ne_eqb _ _ c.if-get-ne1.true)

pub returns-then-has_place : goal.returns-then-has_place
returns-then-has_place c =
    any_found (λ t. t.pot == 1) c.loop-place.place c.teams-teams.result.now c.get.result.now c.get.ensures (has_place c.args.places.now c.args.group 1) _ c.loop-place.invariant (eq-eqb _ _ c.if-get-ne1.false) (sym c.has_place.ensures ∙ c.if-has_place.true)

pub loop-place-preserved : goal.loop-place-preserved
loop-place-preserved c =
    any_failed (λ t. t.pot == 1) c.loop-place.place c.teams-teams.result.now c.get.result.now c.get.ensures (has_place c.args.places.now c.args.group 1) _ c.loop-place.invariant (eq-eqb _ _ c.if-get-ne1.false) (sym c.has_place.ensures ∙ c.if-has_place.false)
