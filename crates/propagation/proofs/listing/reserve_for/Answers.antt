use Rattle.std.proofs.Common.{refl, ◌<◌, length, get_or, ◌∙◌, arith}
use Rattle.count_core.proofs.Marks.{within_at}
use Rattle.propagation.specs.Stores.{no_entry}
use Rattle.propagation.proofs.Lists.{reserved_items, reserved_next}
use Rattle.propagation.proofs.listing.reserve_for.Goals as goal

pub loop-lit-preserved : goal.loop-lit-preserved
loop-lit-preserved c =
    let i = c.loop-lit.lit-index in
    let k = (get_or c.args.lits.now c.loop-lit.lit-index no_entry.lit).atom.0 in
    let lt : k < length c.loop-lit.lists = omega (arith, within_at (length c.args.lists.now) c.args.lits.now c.loop-lit.lit-index no_entry.lit (omega arith) c.requires, c.loop-lit.auto.lists) in
    record {
      items = λ a. reserved_items c.loop-lit.lists k c.reserve_one.new.self (get_or c.loop-lit.lists k c.index-lists-lit.result) c.index-lists-lit.result lt refl c.reserve_one.ensures.items c.reserve_one.ensures.room a ∙ c.loop-lit.invariant.items a;
      room = reserved_next c.loop-lit.lists k c.reserve_one.new.self (get_or c.loop-lit.lists k c.index-lists-lit.result) c.index-lists-lit.result lt refl c.reserve_one.ensures.items c.reserve_one.ensures.room c.args.lits.now i no_entry.lit (omega arith) refl c.in_ok-reserve_one.ensures.ok c.loop-lit.invariant.room;
    }
