use Rattle.std.proofs.Common.{[], ◌∷◌}
use Rattle.offer_engine.specs.Turns.{state_with}
use Rattle.offer_engine.proofs.TurnNeeds.{with_move}
use Rattle.offer_engine.proofs.TurnCourses.{waits_alike}
use Rattle.offer_engine.proofs.turn.taking.Goals as goal

pub waiting_for-requires : goal.waiting_for-requires
waiting_for-requires c =
    let adds = c.in_ok-next.ensures in
    (adds.0 ∷ [], with_move c.args.state.now c.in_ok-next.next adds.0 adds.2 adds.3)

pub returns : goal.returns
returns c =
    let adds = c.in_ok-next.ensures in
    let state = c.args.state.now in
    let is = with_move state c.in_ok-next.next adds.0 adds.2 adds.3 in
    (adds.0, adds.1, waits_alike state c.in_ok-next.next (state_with state (adds.0 ∷ [])) c.in_ok-course.course is c.in_ok-course.ensures)
