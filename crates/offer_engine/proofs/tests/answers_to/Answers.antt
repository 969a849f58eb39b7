use Rattle.std.proofs.Common.{◌∙◌}
use Rattle.offer_engine.proofs.tests.answers_to.Goals as goal

pub returns : goal.returns
returns c = λ a among. c.in_ok-answers.ensures a among ∙ c.in_ok-session.ensures ∙ c.problem.ensures.rules
