use Rattle.team_files.proofs.CodeLaws.{tells_same_code}
use Rattle.team_files.proofs.laws.law_same_code.Goals as goal

pub returns : goal.returns
returns c = tells_same_code
