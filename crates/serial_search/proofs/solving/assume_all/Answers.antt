use Rattle.std.proofs.Common.{◌∙◌, arith, ap, ◌++◌, false}
use Rattle.count_core.specs.declared.lit.Lit.{Lit}
use Rattle.propagation.specs.Engines.{values_in}
use Rattle.serial_search.specs.Assumptions.{assumed_of}
use Rattle.serial_search.proofs.Trails.{free_unset}
use Rattle.serial_search.proofs.Links.{differs_same, differs_on}
use Rattle.serial_search.proofs.Answers.{all_free, first_free, turn_free, turn_distinct, turn_assumed}
use Rattle.serial_search.proofs.solving.assume_all.Goals as goal

abbrev zero_lit : Lit
zero_lit = record { atom = record { 0 = 0 }; positive = false }

pub loop-lit-init : goal.loop-lit-init
loop-lit-init c = record {
  free = all_free c.args.engine.now c.args.lits.now c.requires.nothing c.requires.within;
  distinct = c.requires.distinct;
  assumed = ap (λ es. assumed_of es ++ c.args.lits.now) c.requires.nothing;
  kept = differs_same c.args.engine.now;
}

pub loop-lit-preserved : goal.loop-lit-preserved
loop-lit-preserved c =
    let i = c.loop-lit.lit-index in
    let free = first_free (values_in c.loop-lit.engine) c.args.lits.now i zero_lit (omega arith) c.loop-lit.invariant.free in
    let set = c.assume.ensures.taken (c.assume.ensures.answer ∙ free_unset (values_in c.loop-lit.engine) _ free) in
    let problem = c.assume.ensures.kept.problem in
    record {
      free = turn_free c.loop-lit.engine c.assume.new.self c.args.lits.now i zero_lit (omega arith) c.loop-lit.invariant.free c.loop-lit.invariant.distinct problem set;
      distinct = turn_distinct c.loop-lit.engine c.assume.new.self c.args.lits.now i zero_lit (omega arith) c.loop-lit.invariant.free c.loop-lit.invariant.distinct problem set;
      assumed = turn_assumed c.loop-lit.engine c.assume.new.self c.args.lits.now i zero_lit (omega arith) c.loop-lit.invariant.free c.loop-lit.invariant.distinct problem set c.loop-lit.invariant.assumed;
      kept = differs_on c.args.engine.now c.loop-lit.engine c.assume.new.self c.loop-lit.invariant.kept c.assume.ensures.kept;
    }
