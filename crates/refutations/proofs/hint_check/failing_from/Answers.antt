use Rattle.std.proofs.Common.{◌∙◌, arith, sym, ap, refl, length}
use Rattle.count_core.proofs.Assigning.{length-assign_all}
use Rattle.count_core.proofs.HintChecks.{hint_goes_on}
use Rattle.refutations.specs.NamedRules.{rule_of}
use Rattle.refutations.proofs.hint_check.failing_from.Goals as goal

pub loop-i-preserved : goal.loop-i-preserved
loop-i-preserved c =
    let forces = rw c.values.ensures at (c.in-Forces.ensures.forces c.in-Forces.truth refl) in
    record {
      rest = hint_goes_on _ c.loop-i.assignment c.args.hints.now c.loop-i.i _ (omega arith) (rule_of c.in-Some.rule) (sym c.in-Some.ensures) c.in-Forces.truth _ forces c.assign_all.ensures ∙ c.loop-i.invariant.rest;
      atoms = ap length c.assign_all.ensures ∙ length-assign_all c.in-Forces.truth c.in-Some.rule.lits.now c.loop-i.assignment ∙ c.loop-i.invariant.atoms;
    }
