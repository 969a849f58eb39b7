use Rattle.std.proofs.Common.{arith}
use Rattle.std.proofs.lemmas.Bool.{leb-true, le-leb}
use Rattle.draw_tables.proofs.FreeGroups.{is_later, later_is}
use Rattle.draw_tables.proofs.candidacy.is_later.Goals as goal

pub returns-then-position-ge2 : goal.returns-then-position-ge2
returns-then-position-ge2 c =
    let pots = c.pots.ensures in (
      λ e. let le = leb-true c.args.position c.pots.result e in is_later c.args.file.now c.args.position (omega arith) (omega arith),
      λ h. let range = later_is c.args.file.now c.args.position h in let high = range.1 in le-leb c.args.position c.pots.result (omega arith),
    )

pub returns-else-position-ge2 : goal.returns-else-position-ge2
returns-else-position-ge2 c = (
  λ e. let low = leb-true 2 c.args.position e in absurd (omega arith),
  λ h. let low = (later_is c.args.file.now c.args.position h).0 in absurd (omega arith),
)
