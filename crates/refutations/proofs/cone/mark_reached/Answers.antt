use Rattle.std.proofs.Common.{◌≡◌, ◌≤◌, ◌-◌, ◌+◌, arith, length, get_or, true}
use Rattle.std.proofs.lemmas.Option.{slice_get-get_or}
use Rattle.std.proofs.lemmas.List.{length-set}
use Rattle.refutations.proofs.EarlierSteps.{each_more}
use Rattle.refutations.proofs.Marking.{IsMarked, mark_start, mark_next, mark_done}
use Rattle.refutations.proofs.cone.mark_reached.Goals as goal

pub loop-left-init : goal.loop-left-init
loop-left-init c = record { marked = mark_start _ _ _ (omega arith) c.requires.none; within = omega arith }

pub mark_named-requires : goal.mark_named-requires
mark_named-requires c =
    let at = slice_get-get_or c.args.steps.now (c.loop-left.left - 1) c.index-steps-left.result (omega arith) in
    let le : c.loop-left.left - 1 ≤ length c.loop-left.marks = omega (arith, c.loop-left.auto.marks, length-set c.args.marks.now c.args.from true) in
    rw c.as_slice.ensures (each_more (c.loop-left.left - 1) _ _ le (c.requires.earlier _ _ at))

pub loop-left-preserved-then-marks-left : goal.loop-left-preserved-then-marks-left
loop-left-preserved-then-marks-left c =
    let at = slice_get-get_or c.args.steps.now (c.loop-left.left - 1) c.index-steps-left.result (omega arith) in
    let back : c.loop-left.left ≡ c.loop-left.left - 1 + 1 = omega arith in
    let marked : IsMarked c.args.steps.now c.args.from c.loop-left.marks (c.loop-left.left - 1 + 1) = rw (← back) c.loop-left.invariant.marked in
    record {
      marked = mark_next _ _ c.loop-left.marks _ _ (get_or c.args.steps.now (c.loop-left.left - 1) c.index-steps-left.result) c.requires.earlier at marked c.if-marks-left.true (rw c.as_slice.ensures at c.mark_named.ensures);
      within = omega arith;
    }

pub returns : goal.returns
returns c =
    let none : c.loop-left.left ≡ 0 = omega arith in
    let marked : IsMarked c.args.steps.now c.args.from c.loop-left.marks 0 = rw (← none) c.loop-left.invariant.marked in
    mark_done _ _ _ marked
