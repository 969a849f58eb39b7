use Rattle.std.proofs.Common.{◌≡◌, inl, inr, true, false, arith}
use Rattle.count_core.proofs.RuleEffects.{conflicts_outside, quiet_all_set, quiet_between, forces_false, forces_true}
use Rattle.cert_checker.proofs.effect.effect_of.Goals as goal

pub returns-then-tally-hi-clause-conflict : goal.returns-then-tally-hi-clause-conflict
returns-then-tally-hi-clause-conflict c = λ _. conflicts_outside c.args.values.now c.args.lits.now c.args.lo c.args.hi _ _ c.tally_of-tally.ensures.trues c.tally_of-tally.ensures.falses (inl (omega arith))

pub returns-then-able-lo-clause-conflict : goal.returns-then-able-lo-clause-conflict
returns-then-able-lo-clause-conflict c = λ _. conflicts_outside c.args.values.now c.args.lits.now c.args.lo c.args.hi _ _ c.tally_of-tally.ensures.trues c.tally_of-tally.ensures.falses (inr (omega arith))

pub returns-then-tally-able-clause-quiet : goal.returns-then-tally-able-clause-quiet
returns-then-tally-able-clause-quiet c = λ _. quiet_all_set c.args.values.now c.args.lits.now c.args.lo c.args.hi _ _ c.tally_of-tally.ensures.trues c.tally_of-tally.ensures.falses (omega arith) (omega arith) (omega arith)

pub returns-then-tally-hi-2-clause-forces : goal.returns-then-tally-hi-2-clause-forces
returns-then-tally-hi-2-clause-forces c = λ truth e.
    let same : false ≡ truth = cc in
    rw (← same) (forces_false c.args.values.now c.args.lits.now c.args.lo c.args.hi _ _ c.tally_of-tally.ensures.trues c.tally_of-tally.ensures.falses (omega arith) (omega arith) c.if-tally-able.false (omega arith))

pub returns-then-able-lo-2-clause-forces : goal.returns-then-able-lo-2-clause-forces
returns-then-able-lo-2-clause-forces c = λ truth e.
    let same : true ≡ truth = cc in
    rw (← same) (forces_true c.args.values.now c.args.lits.now c.args.lo c.args.hi _ _ c.tally_of-tally.ensures.trues c.tally_of-tally.ensures.falses (omega arith) (omega arith) c.if-tally-able.false c.if-tally-hi-2.false (omega arith))

pub returns-clause-quiet : goal.returns-clause-quiet
returns-clause-quiet c = λ _. quiet_between c.args.values.now c.args.lits.now c.args.lo c.args.hi _ _ c.tally_of-tally.ensures.trues c.tally_of-tally.ensures.falses (omega arith) (omega arith) c.if-tally-hi-2.false c.if-able-lo-2.false
