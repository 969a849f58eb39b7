use Rattle.std.proofs.Common.{◌≡◌, sym, ◌∙◌, subst}
use Rattle.offer_engine.specs.declared.course.Course.TheVariants.{Waiting}
use Rattle.offer_engine.specs.Courses.{IsCourse}
use Rattle.offer_engine.specs.Turns.{Wants}
use Rattle.offer_engine.proofs.TurnCourses.{at_course, given_group, no_group_before, placed_course, ready_unless, taken_course, takes_one, waiting_wants}
use Rattle.offer_engine.proofs.turn.Turn.give.Goals as goal

pub unreachable-requires : goal.unreachable-requires
unreachable-requires c =
    let t = c.self.inside in
    let ready = ready_unless c.args.self.now t.before t.command t.group t.course c.self.view_is c.self.invariant c.in_default.not-Waiting in
    c.law_ready_or_waiting.ensures c.args.self.now c.requires.wants.0 ready c.requires.wants.1

pub returns-then-not-equals-clause-fault : goal.returns-then-not-equals-clause-fault
returns-then-not-equals-clause-fault c =
    let t = c.self.inside in
    let wants = at_course (λ u. Wants u c.in-Waiting.next) c.args.self.now t.before t.command t.group t.course (Waiting c.in-Waiting.next c.in-Waiting.added) c.self.view_is c.in-Waiting.is c.self.invariant
    (waiting_wants t.before t.command t.group c.in-Waiting.next c.in-Waiting.added) in
    record {
      unwanted = λ other.
          let same = c.law_one_wanted.ensures c.args.self.now c.in-Waiting.next c.args.offer.state wants other in
          let equal = c.equals.ensures.1 (same ∙ sym c.state.ensures.state) in
          let unequal = c.if-not-equals.true in
          cc;
      number = rw c.state-then-not-equals.ensures.state at c.number_of_moves-moves.ensures;
    }

pub returns-in_default-reply_of-clause-fault : goal.returns-in_default-reply_of-clause-fault
returns-in_default-reply_of-clause-fault c =
    let t = c.self.inside in
    let wants = at_course (λ u. Wants u c.in-Waiting.next) c.args.self.now t.before t.command t.group t.course (Waiting c.in-Waiting.next c.in-Waiting.added) c.self.view_is c.in-Waiting.is c.self.invariant
    (waiting_wants t.before t.command t.group c.in-Waiting.next c.in-Waiting.added) in
    let same : c.in-Waiting.next ≡ c.args.offer.state = c.equals.ensures.0 c.if-not-equals.false ∙ c.state.ensures.state in
    subst (λ s. Wants c.args.self.now s) same wants

pub placing-requires-clause-some : goal.placing-requires-clause-some
placing-requires-clause-some c =
    let t = c.self.inside in
    let course = subst (λ k. IsCourse t.before.state t.command t.group k) c.in-Waiting.is c.self.invariant in
    let same : c.in-Waiting.next ≡ c.args.offer.state = c.equals.ensures.0 c.if-not-equals.false ∙ c.state.ensures.state in
    let waits = sym c.phase.ensures ∙ c.in-Group.is in
    takes_one t.before t.command t.group c.in-Waiting.next c.in-Waiting.added course c.args.offer same c.in-Group.team waits

pub returns-in-Group-clause-given : goal.returns-in-Group-clause-given
returns-in-Group-clause-given c =
    let t = c.self.inside in
    let course = subst (λ k. IsCourse t.before.state t.command t.group k) c.in-Waiting.is c.self.invariant in
    let same : c.in-Waiting.next ≡ c.args.offer.state = c.equals.ensures.0 c.if-not-equals.false ∙ c.state.ensures.state in
    let waits = sym c.phase.ensures ∙ c.in-Group.is in
    let none = no_group_before t.before t.command t.group c.in-Waiting.next c.in-Waiting.added course c.args.offer same c.in-Group.team waits in
    let places = rw c.state-in-Group.ensures.state at c.in-Ok.ensures in
    given_group c.args.self.now t.before t.command t.group t.course c.in-Waiting.next c.in-Waiting.added c.self.view_is c.in-Waiting.is none c.args.offer c.in-Ok.course places

pub invariant_of-self : goal.invariant_of-self
invariant_of-self c =
    let t = c.self.inside in
    let course = subst (λ k. IsCourse t.before.state t.command t.group k) c.in-Waiting.is c.self.invariant in
    let same : c.in-Waiting.next ≡ c.args.offer.state = c.equals.ensures.0 c.if-not-equals.false ∙ c.state.ensures.state in
    let waits = sym c.phase.ensures ∙ c.in-Group.is in
    let places = rw c.state-in-Group.ensures.state at c.in-Ok.ensures in
    placed_course t.before t.command t.group c.in-Waiting.next c.in-Waiting.added course c.args.offer same c.in-Group.team waits c.law_clean_where_completable.ensures.clean c.in-Ok.course places

pub invariant_of-self-2 : goal.invariant_of-self-2
invariant_of-self-2 c =
    let t = c.self.inside in
    let course = subst (λ k. IsCourse t.before.state t.command t.group k) c.in-Waiting.is c.self.invariant in
    let same : c.in-Waiting.next ≡ c.args.offer.state = c.equals.ensures.0 c.if-not-equals.false ∙ c.state.ensures.state in
    taken_course t.before t.command t.group c.in-Waiting.next c.in-Waiting.added c.args.offer c.in-Ok-reply_of.reply course same
    (λ s e. c.in_default-phase.not-Group s (c.phase.ensures ∙ e)) c.in-Ok-reply_of.ensures

pub returns-clause-wanted : goal.returns-clause-wanted
returns-clause-wanted c =
    let t = c.self.inside in
    let wants = at_course (λ u. Wants u c.in-Waiting.next) c.args.self.now t.before t.command t.group t.course (Waiting c.in-Waiting.next c.in-Waiting.added) c.self.view_is c.in-Waiting.is c.self.invariant
    (waiting_wants t.before t.command t.group c.in-Waiting.next c.in-Waiting.added) in
    let same : c.in-Waiting.next ≡ c.args.offer.state = c.equals.ensures.0 c.if-not-equals.false ∙ c.state.ensures.state in
    subst (λ s. Wants c.args.self.now s) same wants
