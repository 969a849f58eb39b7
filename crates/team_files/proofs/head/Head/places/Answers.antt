use Rattle.team_files.proofs.HeadLaws.{few_places}
use Rattle.team_files.proofs.head.Head.places.Goals as goal

pub returns-clause-few : goal.returns-clause-few
returns-clause-few c = rw c.as_slice.ensures (few_places _ c.self.invariant)
