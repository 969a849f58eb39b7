use Rattle.std.proofs.Common.{arith}
use Rattle.serial_search.proofs.Closings.{keeps_back}
use Rattle.serial_search.proofs.deciding.go_back.Goals as goal

pub returns-clause-keeps : goal.returns-clause-keeps
returns-clause-keeps c = keeps_back c.args.base.0 c.between.result.0 c.args.engine.now.entries c.back_to.new.self.entries c.between.ensures.base (let end = c.between.ensures.end in let is = c.mark-end.ensures in omega arith) c.back_to.ensures.entries
