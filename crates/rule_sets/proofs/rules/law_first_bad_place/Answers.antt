use Rattle.rule_sets.proofs.FaultLaws.{tells_first_bad_place}
use Rattle.rule_sets.proofs.rules.law_first_bad_place.Goals as goal

pub returns : goal.returns
returns c = tells_first_bad_place
