use Rattle.std.proofs.Common.{◌++◌, [], ◌∷◌, sym, ap, ◌∙◌}
use Rattle.offer_engine.proofs.Standings.{offered_more, excluded_more}
use Rattle.offer_engine.proofs.offer.offered_of.Goals as goal

pub loop-choice-preserved-in_default : goal.loop-choice-preserved-in_default
loop-choice-preserved-in_default c =
    c.loop-choice.invariant
    ∙ sym (excluded_more c.args.standings.now c.loop-choice.choice-index c.loop-choice-item.result c.loop-choice-test.true c.loop-choice-item.is c.in_default.not-Offered)

pub loop-choice-preserved : goal.loop-choice-preserved
loop-choice-preserved c =
    c.in_ok-push.ensures.items ∙ ap (λ xs. xs ++ c.loop-choice-item.result.0 ∷ []) c.loop-choice.invariant
    ∙ sym (offered_more c.args.standings.now c.loop-choice.choice-index c.loop-choice-item.result c.loop-choice-test.true c.loop-choice-item.is c.in-Offered.field-0 c.in-Offered.is)
