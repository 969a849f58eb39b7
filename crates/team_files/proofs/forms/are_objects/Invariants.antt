use Rattle.std.proofs.Common.{◌≡◌, drop, map}
use Rattle.std.specs.List.{list_all}
use Rattle.serde_json.specs.View.{view}
use Rattle.team_files.specs.Members.{is_object}
use Rattle.team_files.proofs.forms.are_objects.Given as goal

-- each value before this one is an object
abbrev pub invariant-loop-value : goal.invariant-loop-value
invariant-loop-value l = list_all is_object (map view (drop l.value-index l.list)) ≡ list_all is_object (map view l.list)
