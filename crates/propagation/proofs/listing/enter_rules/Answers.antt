use Rattle.std.proofs.Common.{◌<◌, length, ◌∙◌, arith}
use Rattle.propagation.proofs.Lists.{rules_next, short_next}
use Rattle.propagation.proofs.listing.enter_rules.Goals as goal

pub loop-number-preserved : goal.loop-number-preserved
loop-number-preserved c =
    let low : c.loop-number.number < length c.args.rules.now = omega arith in
    let few : length c.as_slice-lits.result.now < 9223372036854775808 = omega (arith, c.as_slice-lits.type_inv) in
    record {
      listed = rules_next c.args.rules.now c.loop-number.number c.index-rules-number.result low c.index-rules-number.is (length c.args.lists.now) c.loop-number.lists c.reserve_for.new.lists c.enter.new.lists c.loop-number.invariant.listed c.reserve_for.ensures.items (c.enter.auto.lists ∙ c.reserve_for.auto.lists ∙ c.loop-number.auto.lists) (rw c.as_slice-lits.ensures at c.enter.ensures);
      short = short_next c.args.rules.now c.loop-number.number c.index-rules-number.result low c.index-rules-number.is c.loop-number.invariant.short (rw c.as_slice-lits.ensures at few);
    }
