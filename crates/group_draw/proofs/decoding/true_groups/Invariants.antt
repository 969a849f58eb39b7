use Rattle.std.proofs.Common.{◌≡◌, ℕ, length}
use Rattle.std.specs.Prelude.{slice_get, Some}
use Rattle.team_files.specs.declared.team_id.TeamId.{TeamId}
use Rattle.group_draw.specs.Decoding.{IsTrueGroup}
use Rattle.group_draw.proofs.decoding.true_groups.Given as goal

-- the teams so far have groups whose atoms are true
abbrev pub invariant-loop-place : goal.invariant-loop-place
invariant-loop-place l = record {
  size : length l.groups.items ≡ l.place;
  atoms : (t : TeamId) (group : ℕ) → slice_get l.groups.items t.0 ≡ Some group → IsTrueGroup l.file l.values t group;
}
