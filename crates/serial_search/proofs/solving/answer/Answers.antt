use Rattle.std.proofs.Common.{◌≡◌, ◌∙◌, subst}
use Rattle.count_core.specs.Problems.{IsWellFormed}
use Rattle.propagation.specs.Engines.{values_in}
use Rattle.serial_search.specs.Sides.{IsComplete, totals}
use Rattle.serial_search.proofs.Answers.{complete_satisfies, asked_satisfied}
use Rattle.serial_search.proofs.solving.answer.Goals as goal

pub of-requires : goal.of-requires
of-requires c =
    let complete : IsComplete c.args.engine.now = rw c.in-Found.is at c.requires.side in
    let v : c.in_ok-values-in-Found.values ≡ totals (values_in c.args.engine.now) = rw c.values.ensures.values at c.in_ok-values-in-Found.ensures in
    let p : c.in_ok-problem-in-Found.problem.value ≡ c.args.engine.now.problem = cc (c.in_ok-problem-in-Found.ensures, c.problem.ensures) in
    let own : c.in_ok-own-in-Found.own ≡ c.args.question.now = c.in_ok-own-in-Found.ensures in
    let formed : IsWellFormed c.args.engine.now.problem = subst IsWellFormed (c.deref.ensures ∙ p) c.rules-rules.ensures.formed in
    (rw (v, p) (complete_satisfies c.args.engine.now complete formed), rw (v, own) (asked_satisfied c.args.engine.now c.args.question.now c.trail-trail.ensures.sound c.requires.asked))
