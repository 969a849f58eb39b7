use Rattle.team_files.proofs.HeadLaws.{few_pairs}
use Rattle.team_files.proofs.head.Head.pairs.Goals as goal

pub returns-clause-few : goal.returns-clause-few
returns-clause-few c = rw c.as_slice.ensures (few_pairs _ c.self.invariant)
