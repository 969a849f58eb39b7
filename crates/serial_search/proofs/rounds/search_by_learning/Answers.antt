use Rattle.std.proofs.Common.{arith}
use Rattle.serial_search.proofs.Links.{continued_same}
use Rattle.serial_search.proofs.Closings.{keeps_all, keeps_on, front_longer}
use Rattle.serial_search.proofs.rounds.search_by_learning.Goals as goal

pub loop-turn-init : goal.loop-turn-init
loop-turn-init c = record {
  linked = c.requires;
  continued = continued_same c.args.log.now;
  keeps = keeps_all c.mark-base.result.0 c.args.engine.now.entries (let is = c.mark-base.ensures in omega arith);
}

pub returns-in_err-side-clause-longer : goal.returns-in_err-side-clause-longer
returns-in_err-side-clause-longer c =
    front_longer c.mark-base.result.0 c.args.engine.now.entries c.take_turn.new.engine.entries c.mark-base.ensures
    (keeps_on c.mark-base.result.0 c.args.engine.now.entries c.loop-turn.engine.entries c.take_turn.new.engine.entries c.loop-turn.invariant.keeps c.take_turn.ensures.keeps)

pub returns-in-Some-clause-longer : goal.returns-in-Some-clause-longer
returns-in-Some-clause-longer c =
    front_longer c.mark-base.result.0 c.args.engine.now.entries c.take_turn.new.engine.entries c.mark-base.ensures
    (keeps_on c.mark-base.result.0 c.args.engine.now.entries c.loop-turn.engine.entries c.take_turn.new.engine.entries c.loop-turn.invariant.keeps c.take_turn.ensures.keeps)

pub returns-clause-longer : goal.returns-clause-longer
returns-clause-longer c = front_longer c.mark-base.result.0 c.args.engine.now.entries c.loop-turn.engine.entries c.mark-base.ensures c.loop-turn.invariant.keeps
