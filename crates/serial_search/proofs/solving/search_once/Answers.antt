use Rattle.serial_search.proofs.Answers.{asked_longer}
use Rattle.serial_search.proofs.solving.search_once.Goals as goal

pub returns-clause-asked : goal.returns-clause-asked
returns-clause-asked c = asked_longer c.args.question.now c.ask.new.engine.entries c.search_by_learning.new.engine.entries c.ask.ensures.assumed c.search_by_learning.ensures.longer
