use Rattle.std.proofs.Common.{◌≡◌, true, false, arith, sym, ap, ◌∙◌}
use Rattle.std.specs.Prelude.{bytes_eq}
use Rattle.std.specs.List.{list_any}
use Rattle.draw_tables.specs.Pots.{holds}
use Rattle.draw_tables.specs.GroupTables.{stands_in}
use Rattle.draw_tables.proofs.PotSteps.{count_more, count_passed, count_failed}
use Rattle.draw_tables.proofs.group_rules.number_with.Goals as goal
use Rattle.draw_tables.proofs.group_rules.number_with.Goals.{then-stands_in, else-stands_in}

pub loop-place-preserved-then-not-has_tag : goal.loop-place-preserved-then-not-has_tag
loop-place-preserved-then-not-has_tag c =
    let fails : holds c.args.tag.now c.get.result.now ≡ false = ap (λ tags. list_any (bytes_eq c.args.tag.now) tags) (sym c.as_slice.ensures) ∙ sym c.has_tag.ensures ∙ c.if-not-has_tag.true in
    record {
      few = omega arith;
      whole = count_passed (holds c.args.tag.now) c.loop-place.place c.teams-teams.result.now c.get.result.now c.get.ensures (stands_in c.args.places.now c.args.group) c.loop-place.number _ c.loop-place.invariant.whole fails;
    }

pub loop-place-preserved : goal.loop-place-preserved
loop-place-preserved c =
    let passes : holds c.args.tag.now c.get.result.now ≡ true = ap (λ tags. list_any (bytes_eq c.args.tag.now) tags) (sym c.as_slice.ensures) ∙ sym c.has_tag.ensures ∙ c.if-not-has_tag.false in
    elim c.if-stands_in.branch [
      | then-stands_in w ↦ record {
        few = let is = w.number-is in omega arith;
        whole = rw w.number-is (count_more (holds c.args.tag.now) c.loop-place.place c.teams-teams.result.now c.get.result.now c.get.ensures (stands_in c.args.places.now c.args.group) c.loop-place.number _ c.loop-place.invariant.whole passes (sym c.stands_in.ensures ∙ w.if-stands_in.true));
      }
      | else-stands_in w ↦ record {
        few = let is = w.number-is in omega arith;
        whole = rw w.number-is (count_failed (holds c.args.tag.now) c.loop-place.place c.teams-teams.result.now c.get.result.now c.get.ensures (stands_in c.args.places.now c.args.group) c.loop-place.number _ c.loop-place.invariant.whole passes (sym c.stands_in.ensures ∙ w.if-stands_in.false));
      }
    ]
