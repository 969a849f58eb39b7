use Rattle.std.proofs.Common.{◌∙◌, sym, arith}
use Rattle.cert_checker.proofs.Clauses.{unset_clause, not_free, none_left}
use Rattle.cert_checker.proofs.assignment.Assignment.assume_negation.Goals as goal

pub returns-then-not-assign-clause-distinct : goal.returns-then-not-assign-clause-distinct
returns-then-not-assign-clause-distinct c =
    sym (not_free c.loop-lit.self c.args.clause.now c.loop-lit.lit-index _ (omega arith) (sym c.assign.ensures.free ∙ c.if-not-assign.true))
    ∙ c.loop-lit.invariant.rest
    ∙ unset_clause c.args.self.now c.args.clause.now c.requires

pub returns-clause-distinct : goal.returns-clause-distinct
returns-clause-distinct c =
    sym (none_left c.loop-lit.self c.args.clause.now c.loop-lit.lit-index (omega arith))
    ∙ c.loop-lit.invariant.rest
    ∙ unset_clause c.args.self.now c.args.clause.now c.requires
