use Rattle.rule_sets.proofs.CodedTeams.{found_team}
use Rattle.rule_sets.proofs.rules.team_named.Goals as goal

pub returns-clause-within : goal.returns-clause-within
returns-clause-within c = found_team c.in_ok-code.code c.args.teams.now c.find.result c.find.ensures
