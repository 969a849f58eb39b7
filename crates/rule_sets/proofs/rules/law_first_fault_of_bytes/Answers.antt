use Rattle.rule_sets.proofs.FaultLaws.{tells_first_fault_of_bytes}
use Rattle.rule_sets.proofs.rules.law_first_fault_of_bytes.Goals as goal

pub returns : goal.returns
returns c = tells_first_fault_of_bytes
