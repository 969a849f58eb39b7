use Rattle.draw_tables.proofs.NamedTeams.{states_name_teams}
use Rattle.draw_tables.proofs.laws.law_states_name_teams.Goals as goal

pub returns : goal.returns
returns c = states_name_teams
