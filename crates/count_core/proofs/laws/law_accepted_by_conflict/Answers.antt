use Rattle.count_core.proofs.HintChecks.{accepted_by_conflict}
use Rattle.count_core.proofs.laws.law_accepted_by_conflict.Goals as goal

pub returns : goal.returns
returns c = accepted_by_conflict
