use Rattle.std.specs.Prelude.{codes}
use Rattle.solve.proofs.Told.{behind}
use Rattle.solve.proofs.telling.add_impossible.Goals as goal

pub returns : goal.returns
returns c = behind _ _ _ _ (codes "impossible\n") _ c.in_ok-extend_from_slice.ensures.items c.add_steps.ensures
