use Rattle.rule_sets.proofs.PairLaws.{tells_first_bad_pair}
use Rattle.rule_sets.proofs.rules.law_first_bad_pair.Goals as goal

pub returns : goal.returns
returns c = tells_first_bad_pair
