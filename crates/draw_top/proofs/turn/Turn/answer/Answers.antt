use Rattle.std.proofs.Common.{ap, ◌∙◌, arith}
use Rattle.draw_top.proofs.TurnSteps.{is_state, none_waits, steps, unchanged}
use Rattle.draw_top.proofs.turn.Turn.answer.Goals as goal

pub returns-clause-step : goal.returns-clause-step
returns-clause-step c =
    steps c.args.self.now c.self.inside.offer c.self.view_is c.in_ok-before.before c.in_ok-reply.offer c.args.answered c.args.command c.in_ok-reply.reply
    c.in_ok-before.ensures (omega (arith, c.if-answered-ge-MOST_COMMANDS.false)) c.in_ok-reply.ensures.step

pub returns-clause-of_file : goal.returns-clause-of_file
returns-clause-of_file c =
    let old = c.args.self.now in
    let state = is_state old c.self.inside.offer c.self.view_is c.state.result.now c.state.ensures.state c.file.ensures.state in
    c.law_replies_name_teams.ensures.reply old.file old.moves c.args.answered c.args.command c.in_ok-reply.offer.state.moves c.in_ok-reply.reply state (returns-clause-step c)

pub returns-clause-refused : goal.returns-clause-refused
returns-clause-refused c =
    unchanged c.args.self.now c.self.inside.offer c.self.view_is c.in_ok-before.before c.in_ok-reply.offer c.args.answered c.args.command c.in_ok-reply.reply
    c.in_ok-before.ensures c.in_ok-reply.ensures.same_file (returns-clause-step c)

pub invariant_of-self-2 : goal.invariant_of-self-2
invariant_of-self-2 c =
    let old = c.args.self.now in
    let here = c.self.inside.offer in
    let before = c.in_ok-before.before in
    let after = c.in_ok-reply.offer in
    let step = steps old here c.self.view_is before after c.args.answered c.args.command c.in_ok-reply.reply
    c.in_ok-before.ensures (omega (arith, c.if-answered-ge-MOST_COMMANDS.false)) c.in_ok-reply.ensures.step in
    record {
      problem = c.in_ok-reply.ensures.kept ∙ c.self.invariant.problem;
      file = c.in_ok-reply.ensures.same_file ∙ ap (λ o. o.state.file) c.in_ok-before.ensures ∙ c.self.invariant.file;
      none_waits = none_waits old here c.self.view_is before after c.args.answered c.args.command c.in_ok-reply.reply
          c.in_ok-before.ensures c.law_replies_name_teams.ensures c.self.invariant.none_waits c.in_ok-reply.ensures.same_file step;
    }
