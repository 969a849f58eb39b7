use Rattle.std.proofs.Common.{◌≡◌, map, take}
use Rattle.count_core.specs.Clash.{yes_of}
use Rattle.propagation.proofs.tests.push_rule.Given as goal

abbrev pub invariant-loop-atom : goal.invariant-loop-atom
invariant-loop-atom l = l.lits.items ≡ map yes_of (take l.atom-index l.atoms)
