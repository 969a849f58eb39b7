use Rattle.std.proofs.Common.{◌≡◌, refl}
use Rattle.offer_engine.specs.declared.course.Course.TheVariants.{Refused, Waiting, Taken}
use Rattle.offer_engine.specs.Turns.{IsReady, Wants, after_of}
use Rattle.offer_engine.proofs.TurnCourses.{at_course, refused_ready, taken_after, taken_ready, waiting_wants}
use Rattle.offer_engine.proofs.turn.Turn.after.Goals as goal

pub returns-in-Refused-clause-ready : goal.returns-in-Refused-clause-ready
returns-in-Refused-clause-ready c =
    let t = c.self.inside in
    let ready = at_course IsReady c.args.self.now t.before t.command t.group t.course (Refused c.in-Refused.reply) c.self.view_is c.in-Refused.is c.self.invariant
    (refused_ready t.before t.command t.group c.in-Refused.reply) in
    (λ _. ready, λ _. refl)

pub returns-in-Waiting-clause-ready : goal.returns-in-Waiting-clause-ready
returns-in-Waiting-clause-ready c =
    let t = c.self.inside in
    let wants = at_course (λ u. Wants u c.in-Waiting.next) c.args.self.now t.before t.command t.group t.course (Waiting c.in-Waiting.next c.in-Waiting.added) c.self.view_is c.in-Waiting.is c.self.invariant
    (waiting_wants t.before t.command t.group c.in-Waiting.next c.in-Waiting.added) in
    (λ e. cc, λ ready. absurd (c.law_ready_or_waiting.ensures c.args.self.now c.in-Waiting.next ready wants))

pub returns-in-Taken-clause-ready : goal.returns-in-Taken-clause-ready
returns-in-Taken-clause-ready c =
    let t = c.self.inside in
    let ready = at_course IsReady c.args.self.now t.before t.command t.group t.course (Taken c.in-Taken.reply c.in-Taken.after) c.self.view_is c.in-Taken.is c.self.invariant
    (taken_ready t.before t.command t.group c.in-Taken.reply c.in-Taken.after) in
    (λ _. ready, λ _. refl)

pub returns-in-Taken-clause-after : goal.returns-in-Taken-clause-after
returns-in-Taken-clause-after c =
    let t = c.self.inside in
    at_course (λ u. c.in-Taken.after ≡ after_of u) c.args.self.now t.before t.command t.group t.course (Taken c.in-Taken.reply c.in-Taken.after) c.self.view_is c.in-Taken.is c.self.invariant
    (λ _. taken_after t.before t.command t.group c.in-Taken.reply c.in-Taken.after)
