use Rattle.std.proofs.Common.{◌≡◌}
use Rattle.offer_engine.specs.Questions.{AreAnswersOf}
use Rattle.offer_engine.proofs.tests.solve_each.Given as goal

-- the session's problem stays, and the answers so far are of it
abbrev pub invariant-loop-question : goal.invariant-loop-question
invariant-loop-question l = (l.session.problem ≡ l.initial.session.problem) × AreAnswersOf l.initial.session.problem l.answers.items
