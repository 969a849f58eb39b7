use Rattle.std.proofs.Common.{◌≡◌, ◌∙◌, [], true, false, Some, slice_get, arith, ap, refl, length}
use Rattle.std.proofs.lemmas.Option.{slice_get-get_or, slice_get_read}
use Rattle.refutations.specs.Cones.{placed_step}
use Rattle.refutations.proofs.Sublists.{kept_yes, kept_no, by_places_is}
use Rattle.refutations.proofs.EarlierSteps.{each_more}
use Rattle.refutations.proofs.cone.sublist.Goals as goal
use Rattle.refutations.proofs.cone.sublist.Goals.{then-marks-i+in_ok-placed_step+in_ok-push, else-marks-i}

pub loop-i-preserved : goal.loop-i-preserved
loop-i-preserved c =
    elim c.if-marks-i.branch [
      | then-marks-i+in_ok-placed_step+in_ok-push w ↦
          (let mark : slice_get c.args.marks.now c.loop-i.i ≡ Some true = slice_get-get_or c.args.marks.now c.loop-i.i false c.loop-i-test.true ∙ ap Some w.if-marks-i.true in
          let step : slice_get c.args.steps.now c.loop-i.i ≡ Some w.index-steps-i.result = slice_get_read c.args.steps.now (length c.args.steps.now) _ _ refl (omega arith) w.index-steps-i.is in
          let earlier = each_more c.loop-i.i (length c.args.marks.now) _ (omega arith) (c.requires.earlier _ _ step) in
          let same : w.in_ok-placed_step.field-0 ≡ placed_step c.args.marks.now w.index-steps-i.result = w.in_ok-placed_step.ensures ∙ by_places_is c.args.marks.now c.args.places.now _ c.requires.places earlier in
          rw (w.kept-is, w.in_ok-push.ensures.items) (kept_yes c.args.marks.now c.args.marks.now c.args.steps.now _ _ c.loop-i.i _ _ mark step same c.loop-i.invariant))
      | else-marks-i w ↦
          (let mark : slice_get c.args.marks.now c.loop-i.i ≡ Some false = slice_get-get_or c.args.marks.now c.loop-i.i false c.loop-i-test.true ∙ ap Some w.if-marks-i.false in
          let step = slice_get-get_or c.args.steps.now c.loop-i.i (record { clause = []; hints = [] }) (omega arith) in
          rw w.kept-is (kept_no c.args.marks.now c.args.marks.now c.args.steps.now _ _ c.loop-i.i _ mark step c.loop-i.invariant))
    ]
