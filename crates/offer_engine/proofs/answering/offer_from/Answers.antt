use Rattle.std.proofs.Common.{sym, subst}
use Rattle.offer_engine.specs.Questions.{AreOfProblem}
use Rattle.offer_engine.proofs.answering.offer_from.Goals as goal

pub offer_of-requires-clause-problem : goal.offer_of-requires-clause-problem
offer_of-requires-clause-problem c = subst (λ f. AreOfProblem f c.args.answers.now) (sym c.requires.file) c.requires.problem
