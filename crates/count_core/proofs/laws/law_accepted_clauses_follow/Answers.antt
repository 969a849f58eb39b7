use Rattle.count_core.proofs.Soundness.{clauses_follow}
use Rattle.count_core.proofs.laws.law_accepted_clauses_follow.Goals as goal

pub returns : goal.returns
returns c = clauses_follow
