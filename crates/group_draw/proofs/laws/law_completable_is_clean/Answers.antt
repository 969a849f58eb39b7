use Rattle.group_draw.proofs.CleanMoves.{completable_is_clean}
use Rattle.group_draw.proofs.laws.law_completable_is_clean.Goals as goal

pub returns : goal.returns
returns c = completable_is_clean
