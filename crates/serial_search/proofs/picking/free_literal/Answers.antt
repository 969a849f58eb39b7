use Rattle.std.proofs.Common.{below_more, arith, None}
use Rattle.std.proofs.lemmas.Option.{slice_get_within}
use Rattle.serial_search.proofs.picking.free_literal.Goals as goal

pub loop-atom-preserved : goal.loop-atom-preserved
loop-atom-preserved c = below_more _ _ c.loop-atom.invariant (c.is_free-in-loop-atom.ensures.set c.if-is_free-2.false)

pub returns-clause-none : goal.returns-clause-none
returns-clause-none c = λ a e. c.loop-atom.invariant a (let lt = slice_get_within c.args.values.now a None e in omega (arith, lt, c.requires)) e
