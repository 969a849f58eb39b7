use Rattle.std.proofs.Common.{◌≡◌, inl, inr, true, false, arith}
use Rattle.count_core.proofs.RuleEffects.{conflicts_outside, quiet_all_set, quiet_between, forces_false, forces_true}
use Rattle.refutations.proofs.effect.effect_of.Goals as goal
use Rattle.refutations.proofs.effect.effect_of.Goals.{then-trues-hi-via-then-trues-hi, then-trues-hi-via-else-trues-hi+then-possible-lo}

pub returns-then-trues-hi-clause-conflict : goal.returns-then-trues-hi-clause-conflict
returns-then-trues-hi-clause-conflict c = λ _.
    conflicts_outside c.args.values.now c.args.lits.now c.args.lo c.args.hi c.tally_of-trues.result.trues c.tally_of-trues.result.falses c.tally_of-trues.ensures.trues c.tally_of-trues.ensures.falses
    (elim c.then-trues-hi.branch [
      | then-trues-hi-via-then-trues-hi w ↦ inl (omega arith)
      | then-trues-hi-via-else-trues-hi+then-possible-lo w ↦ inr (omega arith)
    ])

pub returns-then-possible-trues-clause-quiet : goal.returns-then-possible-trues-clause-quiet
returns-then-possible-trues-clause-quiet c = λ _. quiet_all_set c.args.values.now c.args.lits.now c.args.lo c.args.hi c.tally_of-trues.result.trues c.tally_of-trues.result.falses c.tally_of-trues.ensures.trues c.tally_of-trues.ensures.falses (omega arith) (omega arith) (omega arith)

pub returns-then-trues-hi-2-clause-forces : goal.returns-then-trues-hi-2-clause-forces
returns-then-trues-hi-2-clause-forces c = λ b e.
    let same : false ≡ b = cc in
    rw (← same) (forces_false c.args.values.now c.args.lits.now c.args.lo c.args.hi c.tally_of-trues.result.trues c.tally_of-trues.result.falses c.tally_of-trues.ensures.trues c.tally_of-trues.ensures.falses (omega arith) (omega arith) (omega arith) (omega arith))

pub returns-then-possible-lo-2-clause-forces : goal.returns-then-possible-lo-2-clause-forces
returns-then-possible-lo-2-clause-forces c = λ b e.
    let same : true ≡ b = cc in
    rw (← same) (forces_true c.args.values.now c.args.lits.now c.args.lo c.args.hi c.tally_of-trues.result.trues c.tally_of-trues.result.falses c.tally_of-trues.ensures.trues c.tally_of-trues.ensures.falses (omega arith) (omega arith) (omega arith) (omega arith) (omega arith))

pub returns-clause-quiet : goal.returns-clause-quiet
returns-clause-quiet c = λ _. quiet_between c.args.values.now c.args.lits.now c.args.lo c.args.hi c.tally_of-trues.result.trues c.tally_of-trues.result.falses c.tally_of-trues.ensures.trues c.tally_of-trues.ensures.falses (omega arith) (omega arith) (omega arith) (omega arith)
