use Rattle.pairing_draw.proofs.Existence.{completable_where_satisfied}
use Rattle.pairing_draw.proofs.correspondence.law_completable_where_satisfied.Goals as goal

pub returns : goal.returns
returns c = completable_where_satisfied
