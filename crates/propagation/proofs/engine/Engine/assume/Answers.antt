use Rattle.std.proofs.Common.{◌≡◌, ◌∷◌, [], ◌∙◌, sym, None}
use Rattle.count_core.specs.PartialAssignments.{value_at}
use Rattle.propagation.specs.Stores.{values_in}
use Rattle.propagation.proofs.Basics.{none_where}
use Rattle.propagation.proofs.Engines.{engine_grow, free_where}
use Rattle.propagation.proofs.engine.Engine.assume.Goals as goal

pub set-requires-clause-free : goal.set-requires-clause-free
set-requires-clause-free c =
    let low = rw (← c.self.view_is) at c.requires.within in
    let none : value_at (values_in c.self.inside.store) c.args.lit.atom.0 ≡ None = sym c.value.ensures ∙ none_where c.value.result (sym c.is_some.ensures ∙ c.if-is_some.false) in
    free_where c.self.inside.store.problem.atoms c.self.inside.store.entries c.args.lit low none

pub invariant_of-self : goal.invariant_of-self
invariant_of-self c = engine_grow c.self.inside.store c.set.new.self (record { lit = c.args.lit; cause = None } ∷ []) c.self.inside.progress c.self.inside.quiet_at.items c.len-length.ensures.caused c.self.invariant c.set.ensures.kept c.set.ensures.entries
