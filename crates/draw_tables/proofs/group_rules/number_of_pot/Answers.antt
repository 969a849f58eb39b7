use Rattle.std.proofs.Common.{arith, sym, ◌∙◌}
use Rattle.std.specs.Prelude.{◌==◌}
use Rattle.std.proofs.lemmas.Bool.{eq-eqb, ne_eqb}
use Rattle.draw_tables.specs.GroupTables.{stands_in}
use Rattle.draw_tables.proofs.PotSteps.{count_more, count_passed, count_failed}
use Rattle.draw_tables.proofs.group_rules.number_of_pot.Goals as goal
use Rattle.draw_tables.proofs.group_rules.number_of_pot.Goals.{then-stands_in, else-stands_in}

pub loop-place-preserved-then-get-pot : goal.loop-place-preserved-then-get-pot
loop-place-preserved-then-get-pot c =
    record {
      few = omega arith;
      whole = count_passed (λ t. t.pot == c.args.pot) c.loop-place.place c.teams-teams.result.now c.get.result.now c.get.ensures (stands_in c.args.places.now c.args.group) c.loop-place.number _ c.loop-place.invariant.whole (ne_eqb _ _ c.if-get-pot.true);
    }

pub loop-place-preserved : goal.loop-place-preserved
loop-place-preserved c =
    elim c.if-stands_in.branch [
      | then-stands_in w ↦ record {
        few = let is = w.number-is in omega arith;
        whole = rw w.number-is (count_more (λ t. t.pot == c.args.pot) c.loop-place.place c.teams-teams.result.now c.get.result.now c.get.ensures (stands_in c.args.places.now c.args.group) c.loop-place.number _ c.loop-place.invariant.whole (eq-eqb _ _ c.if-get-pot.false) (sym c.stands_in.ensures ∙ w.if-stands_in.true));
      }
      | else-stands_in w ↦ record {
        few = let is = w.number-is in omega arith;
        whole = rw w.number-is (count_failed (λ t. t.pot == c.args.pot) c.loop-place.place c.teams-teams.result.now c.get.result.now c.get.ensures (stands_in c.args.places.now c.args.group) c.loop-place.number _ c.loop-place.invariant.whole (eq-eqb _ _ c.if-get-pot.false) (sym c.stands_in.ensures ∙ w.if-stands_in.false));
      }
    ]
