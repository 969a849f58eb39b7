use Rattle.std.proofs.Common.{◌≡◌, ◌≢◌, ℕ, ◌<◌, Some, slice_get}
use Rattle.team_files.specs.declared.team_id.TeamId.{TeamId}
use Rattle.draw_tables.proofs.holders.taker_by_place.Given as goal

-- no fixed place so far gives another team the position
abbrev pub invariant-loop-place : goal.invariant-loop-place
invariant-loop-place l = (k : ℕ) (other : TeamId) → k < l.place-index → slice_get l.file.places k ≡ Some (record { team = other; group = l.group; position = l.position }) → ¬ (other.0 ≢ l.team.0)
