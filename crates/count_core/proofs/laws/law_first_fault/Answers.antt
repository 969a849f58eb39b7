use Rattle.count_core.proofs.FirstFaults.{tells_first_fault}
use Rattle.count_core.proofs.laws.law_first_fault.Goals as goal

pub returns : goal.returns
returns c = tells_first_fault
