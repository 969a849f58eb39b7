use Rattle.list_counts.proofs.Numbers.{all_within}
use Rattle.list_counts.proofs.laws.law_all_within.Goals as goal

pub returns : goal.returns
returns c = all_within
