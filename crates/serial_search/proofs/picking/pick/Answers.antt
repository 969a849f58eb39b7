use Rattle.std.proofs.Common.{◌∙◌, Option, Some, None, length, ◌<◌}
use Rattle.std.specs.Prelude.{IfSome}
use Rattle.count_core.specs.declared.lit.Lit.{Lit}
use Rattle.propagation.specs.Trails.{IsFree, SetsAsMany}
use Rattle.propagation.specs.Engines.{Engine, values_in}
use Rattle.propagation.proofs.Trails.{length_values}
use Rattle.serial_search.proofs.Trails.{entries_below}
use Rattle.serial_search.proofs.picking.pick.Goals as goal

pub free_literal-requires : goal.free_literal-requires
free_literal-requires c = rw (c.values-values.ensures.values, c.atoms.ensures.atoms, c.deref-2.ensures, c.problem-2.ensures) (length_values c.args.engine.now.problem.atoms c.args.engine.now.entries)

below : (e : Engine) (o : Option Lit) → SetsAsMany (values_in e) e.entries → IfSome o (λ l. IsFree (values_in e) l) → IfSome o (λ l. length e.entries < e.problem.atoms)
below e None h free = tt
below e (Some l) h free = entries_below e l h free

pub returns-clause-below : goal.returns-clause-below
returns-clause-below c = below c.args.engine.now c.free_literal.result c.values-values.ensures.number (rw c.values-values.ensures.values at c.free_literal.ensures.free)
