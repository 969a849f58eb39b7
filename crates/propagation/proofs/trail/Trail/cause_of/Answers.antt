use Rattle.std.proofs.Common.{◌≡◌, true, ◌∙◌, sym, None, arith}
use Rattle.count_core.specs.PartialAssignments.{is_true}
use Rattle.propagation.proofs.Trails.{cause_within, cause_set, cause_unset}
use Rattle.propagation.proofs.trail.Trail.cause_of.Goals as goal

pub returns-then-not-is_true-clause-on_trail : goal.returns-then-not-is_true-clause-on_trail
returns-then-not-is_true-clause-on_trail c =
    let unset = rw c.deref.ensures.value at (sym c.is_true.ensures ∙ c.if-not-is_true.true) in
    rw (← c.self.view_is) (cause_unset c.self.inside.values.items c.self.inside.causes.items c.self.inside.lits.items c.self.inside.atoms c.self.invariant c.args.lit None unset)

pub index-requires : goal.index-requires
index-requires c =
    let set : is_true c.self.inside.values.items c.args.lit ≡ true = rw c.deref.ensures.value at (sym c.is_true.ensures ∙ c.if-not-is_true.false) in
    omega (arith, cause_within c.self.inside.values.items c.self.inside.causes.items c.self.inside.lits.items c.self.inside.atoms c.self.invariant c.args.lit set, c.self.inside.causes.ok.0)

pub returns-clause-on_trail : goal.returns-clause-on_trail
returns-clause-on_trail c =
    let set : is_true c.self.inside.values.items c.args.lit ≡ true = rw c.deref.ensures.value at (sym c.is_true.ensures ∙ c.if-not-is_true.false) in
    rw (← c.self.view_is) (cause_set c.self.inside.values.items c.self.inside.causes.items c.self.inside.lits.items c.self.inside.atoms c.self.invariant c.args.lit c.index.result.now set c.index.ensures)
