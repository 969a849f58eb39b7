use Rattle.offer_engine.proofs.CleanStates.{clean_at_start, clean_where_completable}
use Rattle.offer_engine.proofs.laws.law_clean_where_completable.Goals as goal

pub returns-clause-clean : goal.returns-clause-clean
returns-clause-clean c = clean_where_completable c.law_completable_is_clean.ensures

pub returns-clause-start : goal.returns-clause-start
returns-clause-start c = clean_at_start
