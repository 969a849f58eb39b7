use Rattle.std.proofs.Common.{◌≡◌, ◌∙◌, sym, true}
use Rattle.count_core.specs.PartialAssignments.{is_true}
use Rattle.propagation.specs.Engines.{values_in}
use Rattle.serial_search.proofs.Trails.{true_assumed}
use Rattle.serial_search.proofs.closing.was_assumed.Goals as goal

pub returns-in-None : goal.returns-in-None
returns-in-None c = λ yes.
    let set : is_true (values_in c.args.engine.now) c.args.lit ≡ true = rw c.values.ensures.values at (sym c.is_true.ensures ∙ yes) in
    true_assumed c.args.engine.now.problem.atoms c.args.engine.now.entries c.args.lit c.cause_of.result set c.cause_of.ensures.on_trail c.in-None.is
