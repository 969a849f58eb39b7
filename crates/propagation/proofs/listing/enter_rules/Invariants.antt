use Rattle.std.proofs.Common.{length, take}
use Rattle.propagation.specs.Occurrences.{AreListed, AreShort}
use Rattle.propagation.proofs.listing.enter_rules.Given as goal

-- the first rules are listed
abbrev pub invariant-loop-number : goal.invariant-loop-number
invariant-loop-number l = record {
  listed : AreListed (length l.fn.lists) (take l.number l.rules) l.lists;
  short : AreShort (take l.number l.rules);
}
