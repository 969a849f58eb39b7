use Rattle.std.proofs.Common.{◌≡◌, [], drop, map}
use Rattle.serde_json.specs.View.{view}
use Rattle.team_files.specs.Heads.{place_fields, read_behind}
use Rattle.team_files.proofs.place_forms.places_of.Given as goal

-- the rest, read behind the places so far
abbrev pub invariant-loop-value : goal.invariant-loop-value
invariant-loop-value l = read_behind place_fields l.places.items (map view (drop l.value-index l.list)) ≡ read_behind place_fields [] (map view l.list)
