use Rattle.draw_tables.proofs.FileTeams.{teams_within}
use Rattle.draw_tables.proofs.pots.teams_of_pot.Goals as goal

pub returns-clause-within : goal.returns-clause-within
returns-clause-within c = let found = rw c.teams.ensures at c.in_ok-found.ensures in rw found (teams_within c.args.file.now c.args.pot)
