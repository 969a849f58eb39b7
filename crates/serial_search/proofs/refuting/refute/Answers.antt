use Rattle.serial_search.proofs.Links.{linked_on, differs_same}
use Rattle.serial_search.proofs.refuting.refute.Goals as goal

pub returns-in_default-clause-linked : goal.returns-in_default-clause-linked
returns-in_default-clause-linked c = linked_on c.args.log.now c.close.new.log c.args.engine.now c.args.engine.now c.requires.linked c.close.ensures.continued (differs_same c.args.engine.now)

pub returns-clause-linked : goal.returns-clause-linked
returns-clause-linked c = linked_on c.learn.new.log c.close-2.new.log c.learn.new.engine c.learn.new.engine c.learn.ensures.linked c.close-2.ensures.continued (differs_same c.learn.new.engine)
