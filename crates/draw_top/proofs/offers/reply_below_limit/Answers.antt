use Rattle.std.proofs.Common.{◌∙◌}
use Rattle.draw_top.proofs.TurnSteps.{replies_below}
use Rattle.draw_top.proofs.offers.reply_below_limit.Goals as goal

pub returns-clause-step : goal.returns-clause-step
returns-clause-step c =
    replies_below c.give_wanted.new.turn c.args.before c.finish.result.1 c.args.command c.finish.result.0
    (c.in_ok-give_wanted.ensures.before ∙ c.in_ok-turn.ensures.before_is) (c.in_ok-give_wanted.ensures.command ∙ c.in_ok-turn.ensures.command_is)
    c.finish.ensures.after c.finish.ensures.reply
