use Rattle.std.proofs.Common.{◌≡◌, ap, ◌∙◌}
use Rattle.draw_top.proofs.turn.Turn.open.Goals as goal

pub invariant_of-result : goal.invariant_of-result
invariant_of-result c = record {
  problem = c.in_ok-offer.ensures.kept ∙ c.in_ok-session.ensures ∙ c.in_ok-try_clone.ensures ∙ c.problem.ensures.problem;
  file = ap (λ s. s.file) c.in_ok-offer.ensures.state ∙ c.in_ok-state.ensures.file ∙ c.file.ensures;
  none_waits = rw (c.in_ok-offer.ensures.state, c.in_ok-state.ensures.moves) (c.law_replies_name_teams.ensures.opening c.in_ok-state.state.file);
}
