use Rattle.draw_tables.proofs.Judgements.{one_first_broken}
use Rattle.draw_tables.proofs.laws.law_one_first_broken.Goals as goal

pub returns : goal.returns
returns c = one_first_broken
