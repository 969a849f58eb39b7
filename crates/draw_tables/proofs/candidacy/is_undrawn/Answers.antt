use Rattle.std.proofs.Common.{not, ap, sym, ◌∙◌}
use Rattle.draw_tables.specs.Pots.{teams_of_pot}
use Rattle.draw_tables.specs.Moves.{is_drawn}
use Rattle.draw_tables.proofs.PotMembers.{kept_among, among_kept}
use Rattle.draw_tables.proofs.candidacy.is_undrawn.Goals as goal

pub returns-then-is_in_pot : goal.returns-then-is_in_pot
returns-then-is_in_pot c = (
  λ e. kept_among (λ t. not (is_drawn t c.args.moves.now)) (teams_of_pot c.args.pot c.args.file.now) c.args.team (c.is_in_pot.ensures.0 c.if-is_in_pot.true) (ap not (sym c.is_drawn.ensures) ∙ e),
  λ h. ap not c.is_drawn.ensures ∙ (among_kept (λ t. not (is_drawn t c.args.moves.now)) (teams_of_pot c.args.pot c.args.file.now) c.args.team h).0,
)

pub returns-else-is_in_pot : goal.returns-else-is_in_pot
returns-else-is_in_pot c = (
  λ e. cc,
  λ h. c.is_in_pot.ensures.1 (among_kept (λ t. not (is_drawn t c.args.moves.now)) (teams_of_pot c.args.pot c.args.file.now) c.args.team h).1,
)
