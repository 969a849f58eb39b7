use Rattle.std.proofs.Common.{◌≡◌, ◌<◌, false, [], length, get_or, drop, ◌∙◌, sym, ap, arith}
use Rattle.propagation.specs.Trails.{Entry}
use Rattle.propagation.specs.Occurrences.{items_at, no_occurrence}
use Rattle.propagation.specs.Queues.{AreQuietBut, affects, past_clauses}
use Rattle.propagation.specs.Stores.{IsQuietIn, constraint_in, no_entry}
use Rattle.propagation.proofs.Queues.{differs_same, differs_trans, grows_same, grows_trans, grows_longer, entry_front, quiet_more, within_more, within_clauses, start_clauses, quiet_examined, quiet_passed}
use Rattle.propagation.proofs.queue.visit_clauses.Goals as goal

pub loop-place-init : goal.loop-place-init
loop-place-init c = record {
  kept = differs_same c.args.store.now;
  grows = grows_same c.args.store.now;
  quiet = c.requires.quiet;
  left = rw (c.rule_occurrence_count-first.ensures.number, c.lit_at-lit.ensures.lit) (start_clauses c.args.store.now c.args.progress c.requires.quiet c.requires.entry (rw (← c.lit_at-lit.ensures.lit) c.occurrence_count-count.ensures.others));
}

pub loop-place-preserved-in_default : goal.loop-place-preserved-in_default
loop-place-preserved-in_default c =
    let os = items_at c.args.store.now.lists c.lit_at-lit.result.atom.0 in
    let long = grows_longer c.args.store.now c.loop-place.store c.loop-place.invariant.grows in
    let short : c.loop-place.place < length (items_at c.args.store.now.lists c.lit_at-lit.result.atom.0) = omega (arith, c.occurrence_count-count.ensures.number) in
    let lit : (get_or c.loop-place.store.entries c.args.progress.clauses no_entry).lit ≡ c.lit_at-lit.result = ap (λ (e : Entry). e.lit) (entry_front c.args.store.now c.loop-place.store c.args.progress.clauses c.loop-place.invariant.grows c.requires.entry) ∙ sym c.lit_at-lit.ensures.lit in
    let from = rw c.loop-place.invariant.kept.lists at c.affected_clause.ensures.clause in
    let passed : affects c.lit_at-lit.result (constraint_in c.loop-place.store (get_or (items_at c.args.store.now.lists c.lit_at-lit.result.atom.0) c.loop-place.place no_occurrence).constraint) ≡ false = rw c.loop-place.invariant.kept.lists at c.in_default.ensures.none in
    record {
      kept = c.loop-place.invariant.kept;
      grows = c.loop-place.invariant.grows;
      quiet = c.loop-place.invariant.quiet;
      left = quiet_passed c.loop-place.store c.args.progress os c.loop-place.place short c.loop-place.invariant.quiet c.loop-place.invariant.left (omega (arith, long, c.requires.entry)) from (rw lit passed);
    }

pub returns-in-Some-found-clause-quiet : goal.returns-in-Some-found-clause-quiet
returns-in-Some-found-clause-quiet c =
    let within = within_more c.args.store.now c.loop-place.store c.args.progress c.requires.within c.loop-place.invariant.kept c.loop-place.invariant.grows in
    quiet_more c.loop-place.store c.examine-found.new.store c.args.progress [] c.len-length.ensures.caused c.loop-place.invariant.quiet c.examine-found.ensures.kept c.examine-found.ensures.grows within

pub returns-in-Some-found-clause-grows : goal.returns-in-Some-found-clause-grows
returns-in-Some-found-clause-grows c = grows_trans c.args.store.now c.loop-place.store c.examine-found.new.store c.loop-place.invariant.kept c.loop-place.invariant.grows c.examine-found.ensures.grows

pub loop-place-preserved : goal.loop-place-preserved
loop-place-preserved c =
    let os = items_at c.args.store.now.lists c.lit_at-lit.result.atom.0 in
    let within = within_more c.args.store.now c.loop-place.store c.args.progress c.requires.within c.loop-place.invariant.kept c.loop-place.invariant.grows in
    let next = within_more c.args.store.now c.loop-place.store (past_clauses c.args.progress) (within_clauses c.args.store.now c.args.progress c.requires.within c.requires.entry) c.loop-place.invariant.kept c.loop-place.invariant.grows in
    let short : c.loop-place.place < length (items_at c.args.store.now.lists c.lit_at-lit.result.atom.0) = omega (arith, c.occurrence_count-count.ensures.number) in
    let number : c.in-Some.number ≡ (get_or (items_at c.args.store.now.lists c.lit_at-lit.result.atom.0) c.loop-place.place no_occurrence).constraint = rw c.loop-place.invariant.kept.lists at c.in-Some.ensures.number in
    let quiet : IsQuietIn c.examine-found.new.store (get_or (items_at c.args.store.now.lists c.lit_at-lit.result.atom.0) c.loop-place.place no_occurrence).constraint = rw number at c.in_default-found.ensures.quiet in
    let left : AreQuietBut c.examine-found.new.store (past_clauses c.args.progress) (drop c.loop-place.place (items_at c.args.store.now.lists c.lit_at-lit.result.atom.0)) = quiet_more c.loop-place.store c.examine-found.new.store (past_clauses c.args.progress) (drop c.loop-place.place os) c.len-length.ensures.caused c.loop-place.invariant.left c.examine-found.ensures.kept c.examine-found.ensures.grows next in
    record {
      kept = differs_trans c.args.store.now c.loop-place.store c.examine-found.new.store c.loop-place.invariant.kept c.examine-found.ensures.kept;
      grows = grows_trans c.args.store.now c.loop-place.store c.examine-found.new.store c.loop-place.invariant.kept c.loop-place.invariant.grows c.examine-found.ensures.grows;
      quiet = quiet_more c.loop-place.store c.examine-found.new.store c.args.progress [] c.len-length.ensures.caused c.loop-place.invariant.quiet c.examine-found.ensures.kept c.examine-found.ensures.grows within;
      left = quiet_examined c.examine-found.new.store (past_clauses c.args.progress) os c.loop-place.place short left quiet;
    }
