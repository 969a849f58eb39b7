use Rattle.std.proofs.Common.{not, ap, sym, ◌∙◌}
use Rattle.std.proofs.lemmas.Bool.{not-true as not_true}
use Rattle.draw_tables.specs.Pots.{runners_up}
use Rattle.draw_tables.specs.Moves.{is_drawn}
use Rattle.draw_tables.proofs.Lists.{none_passes, none_kept}
use Rattle.draw_tables.proofs.phases.are_all_drawn.Goals as goal

pub returns : goal.returns
returns c = (
  λ e. none_kept (λ r. not (is_drawn r c.args.moves.now)) (runners_up c.args.file.now) (sym c.has_undrawn.ensures ∙ not_true _ e),
  λ e. ap not (c.has_undrawn.ensures ∙ none_passes (λ r. not (is_drawn r c.args.moves.now)) (runners_up c.args.file.now) e),
)
