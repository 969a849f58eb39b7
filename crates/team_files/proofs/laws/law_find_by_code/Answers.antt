use Rattle.team_files.proofs.CodeLaws.{finds_by_code}
use Rattle.team_files.proofs.laws.law_find_by_code.Goals as goal

pub returns : goal.returns
returns c = finds_by_code
