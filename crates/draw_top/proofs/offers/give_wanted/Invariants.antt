use Rattle.std.proofs.Common.{◌≡◌, ◌-◌, length}
use Rattle.draw_top.proofs.offers.give_wanted.Given as goal

-- the turn is of the same command on the same offer, and the session's problem stays
abbrev pub invariant-loop-next : goal.invariant-loop-next
invariant-loop-next l = record {
  before : l.turn.before ≡ l.initial.turn.before;
  command : l.turn.command ≡ l.initial.turn.command;
  problem : l.session.problem ≡ l.initial.session.problem;
}

-- a command needs at most two offers
abbrev pub decreases-loop-next : goal.decreases-loop-next
decreases-loop-next l = 2 - length l.turn.given
