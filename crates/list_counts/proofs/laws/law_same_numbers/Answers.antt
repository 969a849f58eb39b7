use Rattle.list_counts.proofs.Numbers.{same_numbers}
use Rattle.list_counts.proofs.laws.law_same_numbers.Goals as goal

pub returns : goal.returns
returns c = same_numbers
