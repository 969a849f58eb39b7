use Rattle.std.proofs.Common.{◌≡◌, ◌++◌, drop, map}
use Rattle.std.specs.List.{AllByRecursion, flat_map}
use Rattle.draw_tables.specs.Pots.{groups_of}
use Rattle.group_draw.specs.Encoding.{IsPairOf, pair_rule, pair_rules}
use Rattle.group_draw.proofs.encoding.add_pair_rules.Given as goal

-- what was added and the rules of the pairs left are all
abbrev pub invariant-loop-pair : goal.invariant-loop-pair
invariant-loop-pair l = record {
  rules :
      l.rules.items ++ flat_map (λ pair. map (pair_rule l.file pair) (groups_of l.file)) (drop l.pair-index l.file.pairs)
      ≡ l.fn.rules.items ++ pair_rules l.file;
  pairs : AllByRecursion (IsPairOf l.file) (drop l.pair-index l.file.pairs);
}
