use Rattle.std.proofs.Common.{arith}
use Rattle.count_core.specs.Steps.{rule_at}
use Rattle.refutations.proofs.KeptHints.{turn_leads, turn_idle}
use Rattle.refutations.proofs.leading.keep_leading.Goals as goal
use Rattle.refutations.proofs.leading.keep_leading.Goals.{in-Leads+in_ok-push-in-Leads, in-Idle}

pub loop-hint-preserved : goal.loop-hint-preserved
loop-hint-preserved c =
    elim c.match-take_turn.branch [
      | in-Leads+in_ok-push-in-Leads w ↦ rw (w.kept-is, w.in_ok-push-in-Leads.ensures.items) (turn_leads (rule_at c.args.problem.now c.args.earlier.now) c.loop-hint.assignment c.take_turn.new.assignment c.args.candidates.now c.loop-hint.hint-index _ (omega arith) c.loop-hint.kept.items _ c.loop-hint.invariant (rw w.in-Leads.is at c.take_turn.ensures))
      | in-Idle w ↦ rw w.kept-is (turn_idle (rule_at c.args.problem.now c.args.earlier.now) c.loop-hint.assignment c.take_turn.new.assignment c.args.candidates.now c.loop-hint.hint-index _ (omega arith) c.loop-hint.kept.items _ c.loop-hint.invariant (rw w.in-Idle.is at c.take_turn.ensures))
    ]
