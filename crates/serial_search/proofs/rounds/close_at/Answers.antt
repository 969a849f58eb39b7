use Rattle.std.proofs.Common.{◌∙◌, ap, arith}
use Rattle.serial_search.specs.Assumptions.{assumed_of}
use Rattle.serial_search.proofs.Links.{linked_on, differs_on}
use Rattle.serial_search.proofs.Closings.{closed_same, keeps_back, keeps_longer, keeps_on}
use Rattle.serial_search.proofs.rounds.close_at.Goals as goal

pub returns-clause-side : goal.returns-clause-side
returns-clause-side c = closed_same _ _ _ _ (c.set_what_follows.ensures.assumed ∙ ap assumed_of c.back_to.ensures.entries) c.in_ok-number.ensures.closed

pub returns-clause-keeps : goal.returns-clause-keeps
returns-clause-keeps c =
    let back = keeps_back c.args.base.0 c.args.base.0 c.args.engine.now.entries c.back_to.new.self.entries (omega arith) c.requires.within c.back_to.ensures.entries in
    keeps_on c.args.base.0 c.args.engine.now.entries c.back_to.new.self.entries c.set_what_follows.new.engine.entries back (keeps_longer c.args.base.0 c.back_to.new.self.entries c.set_what_follows.new.engine.entries back.within c.set_what_follows.ensures.longer)

pub returns-in_err-number-clause-linked : goal.returns-in_err-number-clause-linked
returns-in_err-number-clause-linked c = linked_on c.args.log.now c.close.new.log c.args.engine.now c.set_what_follows.new.engine c.requires.linked c.close.ensures.continued (differs_on c.args.engine.now c.back_to.new.self c.set_what_follows.new.engine c.back_to.ensures.kept c.set_what_follows.ensures.kept)

pub returns-clause-linked : goal.returns-clause-linked
returns-clause-linked c = linked_on c.args.log.now c.close.new.log c.args.engine.now c.set_what_follows.new.engine c.requires.linked c.close.ensures.continued (differs_on c.args.engine.now c.back_to.new.self c.set_what_follows.new.engine c.back_to.ensures.kept c.set_what_follows.ensures.kept)
