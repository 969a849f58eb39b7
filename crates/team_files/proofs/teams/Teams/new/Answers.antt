use Rattle.team_files.proofs.CodeLaws.{distinct}
use Rattle.team_files.proofs.teams.Teams.new.Goals as goal

pub invariant_of-result : goal.invariant_of-result
invariant_of-result c = (record { distinct = distinct c.args.teams.items (rw c.deref.ensures.value at c.in_ok-codes.ensures.ok); few = c.requires }, rw c.deref.ensures.value at c.in_ok-codes.ensures.codes)
