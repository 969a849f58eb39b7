use Rattle.std.proofs.Common.{◌≡◌, subst}
use Rattle.offer_engine.specs.Courses.{IsCourse}
use Rattle.offer_engine.specs.Turns.{IsGroupOffer}
use Rattle.offer_engine.proofs.TurnCourses.{no_group, some_group, turn_with}
use Rattle.offer_engine.proofs.turn.Turn.group.Goals as goal

pub returns-in-Some : goal.returns-in-Some
returns-in-Some c =
    let t = c.self.inside in
    let h = subst (λ g. IsCourse t.before.state t.command g t.course) c.in-Some.is c.self.invariant in
    let view = subst (λ g. turn_with t.before t.command g t.course ≡ c.args.self.now) c.in-Some.is c.self.view_is in
    subst (λ u. IsGroupOffer u c.in-Some.offer) view (some_group t.before t.command c.in-Some.offer t.course h)

pub returns-in-None : goal.returns-in-None
returns-in-None c offer =
    let t = c.self.inside in
    let h = subst (λ g. IsCourse t.before.state t.command g t.course) c.in-None.is c.self.invariant in
    let view = subst (λ g. turn_with t.before t.command g t.course ≡ c.args.self.now) c.in-None.is c.self.view_is in
    subst (λ u. ¬ IsGroupOffer u offer) view (no_group t.before t.command offer t.course h)
