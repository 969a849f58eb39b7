use Rattle.std.proofs.Common.{◌≡◌, drop}
use Rattle.solve.proofs.MoreAnswers.{SoFar}
use Rattle.solve.proofs.answering.answers_to.Given as goal

-- the session is as before, and the text with the answers to the questions that are left is the whole
abbrev pub invariant-loop-lits : goal.invariant-loop-lits
invariant-loop-lits l = record {
  kept : l.session.problem ≡ l.initial.session.problem;
  so_far : SoFar l.initial.session.problem l.questions l.text.items (drop l.lits-index l.questions);
}
