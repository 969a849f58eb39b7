use Rattle.pairing_draw.proofs.FormedRules.{few_teams}
use Rattle.pairing_draw.proofs.pots.pot_of.Goals as goal

pub returns-clause-few : goal.returns-clause-few
returns-clause-few c = rw c.in_ok-teams.ensures.teams (few_teams c.args.file.now c.args.pot (c.law_files_have_form.ensures c.args.file.now c.kind.ensures.formed))
