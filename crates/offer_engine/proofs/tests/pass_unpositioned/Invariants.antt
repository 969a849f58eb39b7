use Rattle.std.proofs.Common.{◌≡◌, ℕ, ◌<◌, Some, slice_get}
use Rattle.team_files.specs.declared.team_id.TeamId.{TeamId}
use Rattle.draw_tables.specs.declared.moves.Move.TheVariants.{Positioned}
use Rattle.offer_engine.proofs.tests.pass_unpositioned.Given as goal

-- no move before gives a position
abbrev pub invariant-loop-step : goal.invariant-loop-step
invariant-loop-step l = (k : ℕ) (t : TeamId) (position : ℕ) → k < l.step-index → ¬ slice_get l.state.moves k ≡ Some (Positioned t position)
