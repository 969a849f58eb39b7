use Rattle.std.proofs.Common.{◌-◌, length}
use Rattle.serial_search.proofs.side.+search.Given as goal

-- the number of unset atoms
abbrev pub decreases-search : goal.decreases-search
decreases-search l = l.engine.now.problem.atoms - length l.engine.now.entries
