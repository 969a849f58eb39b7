use Rattle.std.proofs.Common.{◌∙◌, sym, arith}
use Rattle.count_core.proofs.Marks.{met_now, met_never, meets_mark_repeats}
use Rattle.count_core.proofs.faults.repeats.Goals as goal

pub returns-then-marks-place-clause-answer : goal.returns-then-marks-place-clause-answer
returns-then-marks-place-clause-answer c =
    sym (met_now _ _ c.args.lits.now c.loop-lit.lit-index _ (omega arith) c.if-marks-place.true)
    ∙ c.loop-lit.invariant.rest
    ∙ meets_mark_repeats _ _ _ c.requires.within c.requires.older

pub returns-clause-answer : goal.returns-clause-answer
returns-clause-answer c =
    sym (met_never _ _ c.args.lits.now c.loop-lit.lit-index (omega arith))
    ∙ c.loop-lit.invariant.rest
    ∙ meets_mark_repeats _ _ _ c.requires.within c.requires.older
