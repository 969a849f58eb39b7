use Rattle.std.proofs.Common.{◌≡◌, ◌++◌, drop, map}
use Rattle.std.specs.List.{AllByRecursion}
use Rattle.group_draw.specs.Encoding.{IsPlaceOf, place_rule}
use Rattle.group_draw.proofs.encoding.add_place_rules.Given as goal

-- what was added and the rules of the places left are all
abbrev pub invariant-loop-place : goal.invariant-loop-place
invariant-loop-place l = record {
  rules :
      l.rules.items ++ map (place_rule l.file) (drop l.place-index l.file.places)
      ≡ l.fn.rules.items ++ map (place_rule l.file) l.file.places;
  places : AllByRecursion (IsPlaceOf l.file) (drop l.place-index l.file.places);
}
