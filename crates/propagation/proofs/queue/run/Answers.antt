use Rattle.std.proofs.Common.{[], arith}
use Rattle.propagation.specs.Queues.{AreQuiet}
use Rattle.propagation.proofs.Queues.{differs_trans, grows_trans, grows_longer, quiet_more, quiet_next, within_more, within_rules, within_clauses}
use Rattle.propagation.proofs.queue.run.Goals as goal

pub returns-in-Some-clause-grows : goal.returns-in-Some-clause-grows
returns-in-Some-clause-grows c = grows_trans c.args.store.now c.loop-progress.store c.visit_rules.new.store c.loop-progress.invariant.kept c.loop-progress.invariant.grows c.visit_rules.ensures.grows

pub loop-progress-preserved-then-progress-len : goal.loop-progress-preserved-then-progress-len
loop-progress-preserved-then-progress-len c =
    let long = grows_longer c.loop-progress.store c.visit_rules.new.store c.visit_rules.ensures.grows in
    let within = within_more c.loop-progress.store c.visit_rules.new.store c.loop-progress.progress c.loop-progress.invariant.within c.visit_rules.ensures.kept c.visit_rules.ensures.grows in
    record {
      kept = differs_trans c.args.store.now c.loop-progress.store c.visit_rules.new.store c.loop-progress.invariant.kept c.visit_rules.ensures.kept;
      grows = grows_trans c.args.store.now c.loop-progress.store c.visit_rules.new.store c.loop-progress.invariant.kept c.loop-progress.invariant.grows c.visit_rules.ensures.grows;
      within = within_rules c.visit_rules.new.store c.loop-progress.progress within (omega (arith, long, c.len.ensures.len));
      quiet = c.in_default.ensures.next;
    }

pub returns-in-Some-visit_clauses-clause-grows : goal.returns-in-Some-visit_clauses-clause-grows
returns-in-Some-visit_clauses-clause-grows c = grows_trans c.args.store.now c.loop-progress.store c.visit_clauses.new.store c.loop-progress.invariant.kept c.loop-progress.invariant.grows c.visit_clauses.ensures.grows

pub loop-progress-preserved-then-progress-rules : goal.loop-progress-preserved-then-progress-rules
loop-progress-preserved-then-progress-rules c =
    let long = grows_longer c.loop-progress.store c.visit_clauses.new.store c.visit_clauses.ensures.grows in
    let within = within_more c.loop-progress.store c.visit_clauses.new.store c.loop-progress.progress c.loop-progress.invariant.within c.visit_clauses.ensures.kept c.visit_clauses.ensures.grows in
    record {
      kept = differs_trans c.args.store.now c.loop-progress.store c.visit_clauses.new.store c.loop-progress.invariant.kept c.visit_clauses.ensures.kept;
      grows = grows_trans c.args.store.now c.loop-progress.store c.visit_clauses.new.store c.loop-progress.invariant.kept c.loop-progress.invariant.grows c.visit_clauses.ensures.grows;
      within = within_clauses c.visit_clauses.new.store c.loop-progress.progress within (omega (arith, long, c.len-else-progress-len.ensures.len));
      quiet = c.in_default-visit_clauses.ensures.next;
    }

pub returns-in-Some-found-clause-quiet : goal.returns-in-Some-found-clause-quiet
returns-in-Some-found-clause-quiet c = quiet_more c.loop-progress.store c.examine-found.new.store c.loop-progress.progress [] c.len-length.ensures.caused c.loop-progress.invariant.quiet c.examine-found.ensures.kept c.examine-found.ensures.grows c.loop-progress.invariant.within

pub returns-in-Some-found-clause-grows : goal.returns-in-Some-found-clause-grows
returns-in-Some-found-clause-grows c = grows_trans c.args.store.now c.loop-progress.store c.examine-found.new.store c.loop-progress.invariant.kept c.loop-progress.invariant.grows c.examine-found.ensures.grows

pub loop-progress-preserved : goal.loop-progress-preserved
loop-progress-preserved c =
    let within = within_more c.loop-progress.store c.examine-found.new.store c.loop-progress.progress c.loop-progress.invariant.within c.examine-found.ensures.kept c.examine-found.ensures.grows in
    let quiet : AreQuiet c.examine-found.new.store c.loop-progress.progress = quiet_more c.loop-progress.store c.examine-found.new.store c.loop-progress.progress [] c.len-length.ensures.caused c.loop-progress.invariant.quiet c.examine-found.ensures.kept c.examine-found.ensures.grows c.loop-progress.invariant.within in
    record {
      kept = differs_trans c.args.store.now c.loop-progress.store c.examine-found.new.store c.loop-progress.invariant.kept c.examine-found.ensures.kept;
      grows = grows_trans c.args.store.now c.loop-progress.store c.examine-found.new.store c.loop-progress.invariant.kept c.loop-progress.invariant.grows c.examine-found.ensures.grows;
      within = record {
        rules = within.rules;
        clauses = within.clauses;
        examined = rw (c.examine-found.ensures.kept.problem, c.examine-found.ensures.kept.clauses) (omega (arith, c.constraint_count.ensures, c.if-progress-constraint_count.true));
      };
      quiet = quiet_next c.examine-found.new.store c.loop-progress.progress quiet c.in_default-found.ensures.quiet;
    }
