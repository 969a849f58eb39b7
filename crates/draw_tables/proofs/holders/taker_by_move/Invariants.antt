use Rattle.std.proofs.Common.{◌≡◌, ℕ, ◌<◌, Some, slice_get}
use Rattle.team_files.specs.declared.team_id.TeamId.{TeamId}
use Rattle.draw_tables.specs.declared.moves.Move.{Move}
use Rattle.draw_tables.specs.Positions.{Takes}
use Rattle.draw_tables.proofs.holders.taker_by_move.Given as goal

-- no move so far gives another team the position
abbrev pub invariant-loop-step : goal.invariant-loop-step
invariant-loop-step l = (k : ℕ) (m : Move) (other : TeamId) → k < l.step-index → slice_get l.moves k ≡ Some m → ¬ Takes l.moves l.team l.group l.position m other
