use Rattle.team_files.proofs.FaultTable.{tells_first_fault}
use Rattle.team_files.proofs.laws.law_first_fault.Goals as goal

pub returns : goal.returns
returns c = tells_first_fault
