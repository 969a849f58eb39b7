use Rattle.std.proofs.Common.{take}
use Rattle.solve.specs.Questions.{AreAskable}
use Rattle.solve.proofs.questions.first_faulty.Given as goal

-- the questions so far may be asked
abbrev pub invariant-loop-place : goal.invariant-loop-place
invariant-loop-place l = AreAskable l.atoms (take l.place l.questions)
