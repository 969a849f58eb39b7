use Rattle.std.proofs.Common.{◌≡◌, ◌<◌, [], length, get_or, drop, arith}
use Rattle.std.proofs.lemmas.List.{get_or-take}
use Rattle.propagation.specs.Occurrences.{items_at, counter, no_occurrence}
use Rattle.propagation.specs.Queues.{AreQuietBut, past_rules}
use Rattle.propagation.specs.Stores.{IsQuietIn, in_rules}
use Rattle.propagation.proofs.Queues.{differs_same, differs_trans, grows_same, grows_trans, quiet_more, within_more, within_rules, start_rules, quiet_examined, short_rules}
use Rattle.propagation.proofs.queue.visit_rules.Goals as goal

pub loop-place-init : goal.loop-place-init
loop-place-init c = record {
  kept = differs_same c.args.store.now;
  grows = grows_same c.args.store.now;
  quiet = c.requires.quiet;
  left = rw c.lit_at-lit.ensures.lit (start_rules c.args.store.now c.args.progress c.requires.quiet c.requires.entry (rw (← c.lit_at-lit.ensures.lit) c.rule_occurrence_count-count.ensures.others));
}

pub returns-in-Some-clause-quiet : goal.returns-in-Some-clause-quiet
returns-in-Some-clause-quiet c =
    let within = within_more c.args.store.now c.loop-place.store c.args.progress c.requires.within c.loop-place.invariant.kept c.loop-place.invariant.grows in
    quiet_more c.loop-place.store c.examine-found.new.store c.args.progress [] c.len-length.ensures.caused c.loop-place.invariant.quiet c.examine-found.ensures.kept c.examine-found.ensures.grows within

pub returns-in-Some-clause-grows : goal.returns-in-Some-clause-grows
returns-in-Some-clause-grows c = grows_trans c.args.store.now c.loop-place.store c.examine-found.new.store c.loop-place.invariant.kept c.loop-place.invariant.grows c.examine-found.ensures.grows

pub loop-place-preserved : goal.loop-place-preserved
loop-place-preserved c =
    let within = within_more c.args.store.now c.loop-place.store c.args.progress c.requires.within c.loop-place.invariant.kept c.loop-place.invariant.grows in
    let next = within_more c.args.store.now c.loop-place.store (past_rules c.args.progress) (within_rules c.args.store.now c.args.progress c.requires.within c.requires.entry) c.loop-place.invariant.kept c.loop-place.invariant.grows in
    let split : c.loop-place.place < counter c.args.store.now.splits c.lit_at-lit.result.atom.0 = omega (arith, c.rule_occurrence_count-count.ensures.number) in
    let short : c.loop-place.place < length (in_rules c.args.store.now c.lit_at-lit.result.atom.0) = short_rules c.args.store.now c.lit_at-lit.result.atom.0 c.loop-place.place split (omega (arith, c.rule_occurrence_count-count.ensures.within)) in
    let number : c.constraint_of_occurrence-number.result ≡ (get_or (in_rules c.args.store.now c.lit_at-lit.result.atom.0) c.loop-place.place no_occurrence).constraint = rw (get_or-take (counter c.args.store.now.splits c.lit_at-lit.result.atom.0) (items_at c.args.store.now.lists c.lit_at-lit.result.atom.0) c.loop-place.place no_occurrence split) (rw c.loop-place.invariant.kept.lists at c.constraint_of_occurrence-number.ensures.number) in
    let quiet : IsQuietIn c.examine-found.new.store (get_or (in_rules c.args.store.now c.lit_at-lit.result.atom.0) c.loop-place.place no_occurrence).constraint = rw number at c.in_default.ensures.quiet in
    let left : AreQuietBut c.examine-found.new.store (past_rules c.args.progress) (drop c.loop-place.place (in_rules c.args.store.now c.lit_at-lit.result.atom.0)) = quiet_more c.loop-place.store c.examine-found.new.store (past_rules c.args.progress) (drop c.loop-place.place (in_rules c.args.store.now c.lit_at-lit.result.atom.0)) c.len-length.ensures.caused c.loop-place.invariant.left c.examine-found.ensures.kept c.examine-found.ensures.grows next in
    record {
      kept = differs_trans c.args.store.now c.loop-place.store c.examine-found.new.store c.loop-place.invariant.kept c.examine-found.ensures.kept;
      grows = grows_trans c.args.store.now c.loop-place.store c.examine-found.new.store c.loop-place.invariant.kept c.loop-place.invariant.grows c.examine-found.ensures.grows;
      quiet = quiet_more c.loop-place.store c.examine-found.new.store c.args.progress [] c.len-length.ensures.caused c.loop-place.invariant.quiet c.examine-found.ensures.kept c.examine-found.ensures.grows within;
      left = quiet_examined c.examine-found.new.store (past_rules c.args.progress) (in_rules c.args.store.now c.lit_at-lit.result.atom.0) c.loop-place.place short left quiet;
    }
