use Rattle.std.proofs.Common.{None, arith, take, ap}
use Rattle.std.proofs.lemmas.Option.{slice_get_within}
use Rattle.count_core.specs.Problems.{Problem}
use Rattle.propagation.specs.Trails.{values_of}
use Rattle.propagation.proofs.Trails.{length_values}
use Rattle.serial_search.proofs.deciding.turn_to.Goals as goal

pub assume-requires-clause-within : goal.assume-requires-clause-within
assume-requires-clause-within c =
    let atoms = ap (λ (p : Problem). p.atoms) c.back_to.ensures.kept.problem in
    let left = take c.args.mark.0 c.args.engine.now.entries in
    omega (arith, atoms, slice_get_within (values_of c.args.engine.now.problem.atoms left) c.args.lit.atom.0 None c.requires.free, length_values c.args.engine.now.problem.atoms left)
