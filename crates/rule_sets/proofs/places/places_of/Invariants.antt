use Rattle.std.proofs.Common.{◌≡◌, [], length, drop}
use Rattle.rule_sets.specs.Files.{places_behind}
use Rattle.rule_sets.proofs.places.places_of.Given as goal

-- the rest, looked up behind the places so far, of which there are as many as were looked at
abbrev pub invariant-loop-one : goal.invariant-loop-one
invariant-loop-one l = record {
  places : places_behind l.head l.places.items (drop l.one-index l.named) ≡ places_behind l.head [] l.named;
  number : length l.places.items ≡ l.one-index;
}
