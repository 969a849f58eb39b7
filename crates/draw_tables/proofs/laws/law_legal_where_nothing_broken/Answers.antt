use Rattle.draw_tables.proofs.Judgements.{legal_where_none_broken, none_broken_where_legal}
use Rattle.draw_tables.proofs.laws.law_legal_where_nothing_broken.Goals as goal

pub returns-clause-legal : goal.returns-clause-legal
returns-clause-legal c = legal_where_none_broken

pub returns-clause-none_broken : goal.returns-clause-none_broken
returns-clause-none_broken c = none_broken_where_legal
