use Rattle.serial_search.proofs.Trails.{forced_assumed}
use Rattle.serial_search.proofs.deciding.set_what_follows.Goals as goal

pub returns-clause-assumed : goal.returns-clause-assumed
returns-clause-assumed c = forced_assumed c.args.engine.now.entries c.propagate-found.new.self.entries c.propagate-found.ensures.forced
