use Rattle.count_core.proofs.Decisions.{satisfiability_decides}
use Rattle.count_core.proofs.laws.law_satisfiability_decides.Goals as goal

pub returns : goal.returns
returns c = satisfiability_decides
