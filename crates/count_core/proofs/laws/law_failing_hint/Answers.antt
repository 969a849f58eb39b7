use Rattle.count_core.proofs.FailingHints.{tells_failing_hint}
use Rattle.count_core.proofs.laws.law_failing_hint.Goals as goal

pub returns : goal.returns
returns c = tells_failing_hint
