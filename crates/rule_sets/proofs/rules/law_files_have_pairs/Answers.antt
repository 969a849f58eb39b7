use Rattle.rule_sets.proofs.NamedPairLaws.{files_have_pairs}
use Rattle.rule_sets.proofs.rules.law_files_have_pairs.Goals as goal

pub returns : goal.returns
returns c = files_have_pairs
