use Rattle.std.proofs.Common.{refl, sym, [], ◌<◌, length, get_or, arith}
use Rattle.std.specs.Prelude.{◌==◌}
use Rattle.std.proofs.lemmas.List.{append-nil}
use Rattle.count_core.proofs.Marks.{within_at}
use Rattle.propagation.specs.Stores.{no_entry}
use Rattle.propagation.specs.Occurrences.{items_at}
use Rattle.propagation.proofs.Lists.{enter_numbers, enter_distinct, enter_room, pushed_appended, number_past}
use Rattle.propagation.proofs.listing.enter.Goals as goal

pub loop-lit-preserved : goal.loop-lit-preserved
loop-lit-preserved c =
    let k = (get_or c.args.lits.now c.loop-lit.lit-index no_entry.lit).atom.0 in
    let low : c.loop-lit.lit-index < length c.args.lits.now = omega arith in
    let lt : k < length c.loop-lit.lists = omega (arith, within_at (length c.args.lists.now) c.args.lits.now c.loop-lit.lit-index no_entry.lit low c.requires.within, c.loop-lit.auto.lists) in
    record {
      numbers = enter_numbers c.loop-lit.lists c.args.lists.now c.args.lits.now c.loop-lit.lit-index c.args.number no_entry.lit c.push.new.self (get_or c.loop-lit.lists k c.index-lists-lit.result) c.index-lists-lit.result low lt refl c.push.ensures.items c.loop-lit.invariant.numbers;
      distinct = enter_distinct c.loop-lit.lists c.args.lists.now c.args.lits.now c.loop-lit.lit-index c.args.number no_entry.lit c.push.new.self (get_or c.loop-lit.lists k c.index-lists-lit.result) c.index-lists-lit.result low lt refl c.push.ensures.items c.loop-lit.invariant.distinct;
      room = enter_room c.loop-lit.lists c.args.lists.now c.args.lits.now c.loop-lit.lit-index c.args.number no_entry.lit c.push.new.self (get_or c.loop-lit.lists k c.index-lists-lit.result) c.index-lists-lit.result low lt refl c.push.ensures.items c.loop-lit.invariant.distinct c.loop-lit.invariant.room;
      appended = λ a. pushed_appended c.loop-lit.lists k c.push.new.self (get_or c.loop-lit.lists k c.index-lists-lit.result) c.index-lists-lit.result lt refl (record { constraint = c.args.number; positive = (get_or c.args.lits.now c.loop-lit.lit-index no_entry.lit).positive }) c.push.ensures.items c.args.number (items_at c.args.lists.now a) a refl (c.loop-lit.invariant.appended a);
    }

pub returns : goal.returns
returns c = record {
  numbers = λ b n a. (let e = c.loop-lit.invariant.numbers b n a in let f = number_past (c.args.number == n) b a c.args.lits.now c.loop-lit.lit-index (omega arith) in omega (arith, e, f));
  appended = c.loop-lit.invariant.appended;
}

pub loop-lit-init : goal.loop-lit-init
loop-lit-init c = record {
  numbers = λ b n a. refl;
  distinct = c.requires.distinct;
  room = c.requires.room;
  appended = λ a. ([], sym (append-nil (items_at c.args.lists.now a)), tt);
}
