use Rattle.std.proofs.Common.{◌≡◌, [], drop, map}
use Rattle.serde_json.specs.View.{view}
use Rattle.team_files.specs.Heads.{limit_fields, read_behind}
use Rattle.team_files.proofs.limit_forms.limits_of.Given as goal

-- the rest, read behind the limits so far
abbrev pub invariant-loop-value : goal.invariant-loop-value
invariant-loop-value l = read_behind limit_fields l.limits.items (map view (drop l.value-index l.list)) ≡ read_behind limit_fields [] (map view l.list)
