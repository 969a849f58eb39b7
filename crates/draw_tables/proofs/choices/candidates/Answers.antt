use Rattle.draw_tables.proofs.FileTeams.{candidates_within}
use Rattle.draw_tables.proofs.choices.candidates.Goals as goal

pub returns-clause-of_file : goal.returns-clause-of_file
returns-clause-of_file c = rw c.in_ok-choices.ensures (candidates_within c.args.file.now c.args.moves.now c.phase_of.result)
