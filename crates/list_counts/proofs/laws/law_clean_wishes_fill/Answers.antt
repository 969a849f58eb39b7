use Rattle.list_counts.proofs.CleanWishes.{clean_wishes_fill}
use Rattle.list_counts.proofs.laws.law_clean_wishes_fill.Goals as goal

pub returns : goal.returns
returns c = clean_wishes_fill
