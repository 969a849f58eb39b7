use Rattle.rule_sets.specs.Files.{IsWellFormed}
use Rattle.draw_tables.specs.States.{IsState}
use Rattle.draw_state.specs.declared.commands.Action.{Action}
use Rattle.draw_state.specs.State.{Accepts}
use Rattle.offer_engine.proofs.TurnCourses.{accepted_possible, ball_course, refused_course}
use Rattle.offer_engine.proofs.turn.course_of.Goals as goal

pub taking-requires : goal.taking-requires
taking-requires c =
    let state = c.args.before.now.state in
    let accepted : Accepts state 0 c.args.command.now (Action.Ball c.ball_of.result) = rw (c.state-2.ensures.state, c.ball_of.ensures) at c.in-Ok.ensures.accepted in
    let possible = accepted_possible c.law_offered_is_accepted.ensures c.law_offered_where_possible.ensures state c.args.command.now c.in_ok-offered.offered.items c.in_ok-offered.ensures c.ball_of.result accepted in
    rw c.state-in-Ok.ensures.state possible.1.0

pub returns-in-Ok : goal.returns-in-Ok
returns-in-Ok c =
    let state = c.args.before.now.state in
    let accepted : Accepts state 0 c.args.command.now (Action.Ball c.ball_of.result) = rw (c.state-2.ensures.state, c.ball_of.ensures) at c.in-Ok.ensures.accepted in
    let takes = rw c.state-in-Ok.ensures.state at c.in_ok-course-in-Ok.ensures in
    let formed : IsWellFormed state.file = rw (c.file.ensures.file, c.state.ensures.state) at c.kind.ensures.formed in
    let is_state : IsState state.file state.moves = rw c.state.ensures.state at c.file.ensures.state in
    ball_course c.law_offered_is_accepted.ensures c.law_offered_where_possible.ensures state c.args.command.now c.in_ok-offered.offered.items c.in_ok-offered.ensures c.ball_of.result accepted
    c.law_clean_where_completable.ensures.clean c.law_offer_exists.ensures formed is_state c.in_ok-course-in-Ok.course takes

pub returns : goal.returns
returns c =
    let refused = rw c.state-2.ensures.state at c.in-Err.ensures.refused in
    refused_course c.law_steps_below_limit.ensures c.args.before.now.state c.args.command.now c.in-Err.refusal refused
