use Rattle.std.proofs.Common.{None, arith}
use Rattle.std.proofs.lemmas.Option.{slice_get_within}
use Rattle.propagation.specs.Engines.{values_in}
use Rattle.propagation.proofs.Trails.{length_values}
use Rattle.serial_search.proofs.deciding.decide.Goals as goal

pub assume-requires-clause-within : goal.assume-requires-clause-within
assume-requires-clause-within c = omega (arith, slice_get_within (values_in c.args.engine.now) c.args.lit.atom.0 None c.requires.free, length_values c.args.engine.now.problem.atoms c.args.engine.now.entries)
