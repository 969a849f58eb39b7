use Rattle.std.proofs.Common.{◌∙◌}
use Rattle.draw_top.proofs.offers.offer_at.Goals as goal

pub offer_from-requires-clause-problem : goal.offer_from-requires-clause-problem
offer_from-requires-clause-problem c =
    rw c.deref-2.ensures.value (λ a among. c.in_ok-answers.ensures.problem a among ∙ c.requires.problem ∙ c.problem.ensures.rules)
