use Rattle.std.proofs.Common.{◌≡◌, subst}
use Rattle.std.specs.Prelude.{Contains}
use Rattle.count_core.specs.Assignments.{negation}
use Rattle.refutations.specs.Derivations.{clause_at}
use Rattle.serial_search.proofs.Negations.{negation_twice}
use Rattle.serial_search.proofs.Closings.{closed_before, joined_negates}
use Rattle.serial_search.proofs.merging.merge.Goals as goal

pub returns-then-not-holds-clause-closed : goal.returns-then-not-holds-clause-closed
returns-then-not-holds-clause-closed c = λ ls sides.
    closed_before c.args.log.now ls (negation c.args.split) c.args.second (record { within = c.requires.second; negates = sides.second_negates })
    (λ m. (let yes = c.holds.ensures.1 (subst (Contains (clause_at c.args.log.now.steps c.args.second)) (negation_twice c.args.split) m) in let no = c.if-not-holds.true in cc))

pub returns-clause-closed : goal.returns-clause-closed
returns-clause-closed c = λ ls sides. record {
  within = c.in_ok-number.ensures.number;
  negates = joined_negates ls c.args.split _ _ sides.first_negates sides.second_negates _ c.in_ok-number.ensures.joined;
}
