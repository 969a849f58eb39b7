use Rattle.std.proofs.Common.{◌≡◌}
use Rattle.offer_engine.specs.declared.course.Course.TheVariants.{Refused, Waiting, Taken}
use Rattle.offer_engine.specs.Turns.{Replies, Wants, after_of}
use Rattle.offer_engine.proofs.TurnCourses.{at_course, refused_replies, taken_after, taken_file, taken_replies, waiting_wants}
use Rattle.offer_engine.proofs.turn.Turn.finish.Goals as goal

pub returns-in-Refused-clause-reply : goal.returns-in-Refused-clause-reply
returns-in-Refused-clause-reply c =
    let t = c.self.inside in
    at_course (λ u. Replies u c.in-Refused.reply) c.args.self t.before t.command t.group t.course (Refused c.in-Refused.reply) c.self.view_is c.in-Refused.is c.self.invariant
    (refused_replies t.before t.command t.group c.in-Refused.reply)

pub returns-clause-reply : goal.returns-clause-reply
returns-clause-reply c =
    let t = c.self.inside in
    at_course (λ u. Replies u c.in-Taken.reply) c.args.self t.before t.command t.group t.course (Taken c.in-Taken.reply c.in-Taken.after) c.self.view_is c.in-Taken.is c.self.invariant
    (taken_replies t.before t.command t.group c.in-Taken.reply c.in-Taken.after)

pub unreachable-requires : goal.unreachable-requires
unreachable-requires c =
    let t = c.self.inside in
    let wants = at_course (λ u. Wants u c.in-Waiting.next) c.args.self t.before t.command t.group t.course (Waiting c.in-Waiting.next c.in-Waiting.added) c.self.view_is c.in-Waiting.is c.self.invariant
    (waiting_wants t.before t.command t.group c.in-Waiting.next c.in-Waiting.added) in
    c.law_ready_or_waiting.ensures c.args.self c.in-Waiting.next c.requires wants

pub returns-clause-after : goal.returns-clause-after
returns-clause-after c =
    let t = c.self.inside in
    at_course (λ u. c.in-Taken.after ≡ after_of u) c.args.self t.before t.command t.group t.course (Taken c.in-Taken.reply c.in-Taken.after) c.self.view_is c.in-Taken.is c.self.invariant
    (λ _. taken_after t.before t.command t.group c.in-Taken.reply c.in-Taken.after)

pub returns-clause-file : goal.returns-clause-file
returns-clause-file c =
    let t = c.self.inside in
    at_course (λ u. c.in-Taken.after.state.file ≡ u.before.state.file) c.args.self t.before t.command t.group t.course (Taken c.in-Taken.reply c.in-Taken.after) c.self.view_is c.in-Taken.is c.self.invariant
    (taken_file t.before t.command t.group c.in-Taken.reply c.in-Taken.after)
