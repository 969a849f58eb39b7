use Rattle.std.proofs.Common.{◌≡◌, drop, map}
use Rattle.serde_json.specs.View.{view}
use Rattle.team_files.specs.Heads.{missing_in_place, missing_in_each}
use Rattle.team_files.proofs.missing.check_each_place.Given as goal

-- no place before this one lacks a member
abbrev pub invariant-loop-place : goal.invariant-loop-place
invariant-loop-place l = missing_in_each missing_in_place (map view (drop l.place-index l.places)) ≡ missing_in_each missing_in_place (map view l.places)
