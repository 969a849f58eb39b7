use Rattle.std.proofs.Common.{◌≡◌, take}
use Rattle.offer_engine.specs.Questions.{AreAnswersOf, asked}
use Rattle.draw_top.proofs.offers.solve_each.Given as goal

-- the session's problem stays, and the answers so far are those of it to the questions before
abbrev pub invariant-loop-question : goal.invariant-loop-question
invariant-loop-question l = record {
  problem : l.session.problem ≡ l.initial.session.problem;
  answers : AreAnswersOf l.initial.session.problem l.answers.items;
  asked : asked l.answers.items ≡ take l.question-index l.wanted;
}
