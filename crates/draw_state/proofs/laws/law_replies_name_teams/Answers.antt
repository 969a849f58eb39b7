use Rattle.draw_state.proofs.Steps.{replies_name_teams}
use Rattle.draw_state.proofs.laws.law_replies_name_teams.Goals as goal

pub returns : goal.returns
returns c = replies_name_teams
