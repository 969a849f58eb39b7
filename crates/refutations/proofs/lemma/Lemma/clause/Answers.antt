use Rattle.std.proofs.Common.{◌≡◌, sym, subst}
use Rattle.count_core.specs.Assignments.{Follows}
use Rattle.refutations.specs.Derivations.{last_clause}
use Rattle.refutations.proofs.LastSteps.{last_follows}
use Rattle.refutations.proofs.lemma.Lemma.clause.Goals as goal

pub returns-clause-follows : goal.returns-clause-follows
returns-clause-follows c =
    let e : c.last_clause.result.now ≡ last_clause c.self.inside.steps = rw c.as_slice.ensures at c.last_clause.ensures in
    rw (← c.self.view_is) (subst (Follows c.self.inside.problem.value) (sym e) (last_follows _ _ c.self.invariant))
