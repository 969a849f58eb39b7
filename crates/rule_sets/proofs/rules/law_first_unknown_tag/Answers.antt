use Rattle.rule_sets.proofs.UnknownTagLaws.{tells_first_unknown_tag}
use Rattle.rule_sets.proofs.rules.law_first_unknown_tag.Goals as goal

pub returns : goal.returns
returns c = tells_first_unknown_tag
