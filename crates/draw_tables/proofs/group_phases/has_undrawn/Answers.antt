use Rattle.std.proofs.Common.{not, ap, sym, ◌∙◌}
use Rattle.std.specs.Prelude.{◌==◌}
use Rattle.std.proofs.lemmas.Bool.{eq-eqb, ne_eqb}
use Rattle.draw_tables.specs.Moves.{is_drawn}
use Rattle.draw_tables.proofs.PotSteps.{any_found, any_passed, any_failed}
use Rattle.draw_tables.proofs.group_phases.has_undrawn.Goals as goal

pub loop-place-preserved-then-get-pot : goal.loop-place-preserved-then-get-pot
loop-place-preserved-then-get-pot c =
    any_passed (λ t. t.pot == c.args.pot) c.loop-place.place c.teams-teams.result.now c.get.result.now c.get.ensures (λ t. not (is_drawn t c.args.moves.now)) _ c.loop-place.invariant (ne_eqb _ _ c.if-get-pot.true)

pub returns-then-not-is_drawn : goal.returns-then-not-is_drawn
returns-then-not-is_drawn c =
    any_found (λ t. t.pot == c.args.pot) c.loop-place.place c.teams-teams.result.now c.get.result.now c.get.ensures (λ t. not (is_drawn t c.args.moves.now)) _ c.loop-place.invariant (eq-eqb _ _ c.if-get-pot.false)
    (ap not (sym c.is_drawn.ensures ∙ c.if-not-is_drawn.true))

pub loop-place-preserved : goal.loop-place-preserved
loop-place-preserved c =
    any_failed (λ t. t.pot == c.args.pot) c.loop-place.place c.teams-teams.result.now c.get.result.now c.get.ensures (λ t. not (is_drawn t c.args.moves.now)) _ c.loop-place.invariant (eq-eqb _ _ c.if-get-pot.false)
    (ap not (sym c.is_drawn.ensures ∙ c.if-not-is_drawn.false))
