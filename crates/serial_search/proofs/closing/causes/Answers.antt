use Rattle.std.proofs.Common.{◌≡◌, ◌∙◌, ap, subst, add-one, arith, length, get_or, false}
use Rattle.count_core.specs.declared.lit.Lit.{Lit}
use Rattle.propagation.specs.Trails.{IsCauseOf, lits_of}
use Rattle.serial_search.proofs.Trails.{caused_more, length_lits}
use Rattle.serial_search.proofs.closing.causes.Goals as goal

abbrev zero_lit : Lit
zero_lit = record { atom = record { 0 = 0 }; positive = false }

pub loop-lit-preserved : goal.loop-lit-preserved
loop-lit-preserved c =
    let es = c.args.engine.now.entries in
    let number : length c.trail-trail.result.now ≡ length es = ap length c.trail-trail.ensures.lits ∙ length_lits es in
    let cause : IsCauseOf es (get_or (lits_of es) c.loop-lit.lit-index zero_lit) c.cause_of.result = subst (λ ls. IsCauseOf es (get_or ls c.loop-lit.lit-index zero_lit) c.cause_of.result) c.trail-trail.ensures.lits c.cause_of.ensures.on_trail in
    rw (c.in_ok-push_cause.ensures, add-one) (caused_more es c.loop-lit.lit-index zero_lit c.cause_of.result c.args.conflict c.loop-lit.hints.items (omega (arith, number)) cause c.loop-lit.invariant)
