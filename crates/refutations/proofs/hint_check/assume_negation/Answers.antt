use Rattle.std.proofs.Common.{◌≡◌, ◌∙◌, arith, sym, ap, not, true, false}
use Rattle.count_core.specs.Problems.{repeats}
use Rattle.count_core.proofs.AssumedNegations.{met_now, met_never, unset_repeats}
use Rattle.refutations.proofs.hint_check.assume_negation.Goals as goal

pub returns-then-is_set-clause-distinct : goal.returns-then-is_set-clause-distinct
returns-then-is_set-clause-distinct c =
    let met = rw c.values.ensures at (sym c.is_set.ensures ∙ c.if-is_set.true) in
    let e : repeats c.args.clause.now ≡ true = sym (unset_repeats false c.args.assignment.now _ c.args.clause.now c.requires.unset c.requires.within) ∙ sym c.loop-lit.invariant.rest ∙ met_now false c.loop-lit.assignment c.args.clause.now c.loop-lit.lit-index _ (omega arith) met in
    ap not (sym e)

pub returns-clause-distinct : goal.returns-clause-distinct
returns-clause-distinct c =
    let e : repeats c.args.clause.now ≡ false = sym (unset_repeats false c.args.assignment.now _ c.args.clause.now c.requires.unset c.requires.within) ∙ sym c.loop-lit.invariant.rest ∙ met_never false c.loop-lit.assignment c.args.clause.now c.loop-lit.lit-index (omega arith) in
    ap not (sym e)
