-- The rule that borrowed literals and bounds stand for.
use Rattle.cert_checker.specs.declared.named_rule.NamedRule.{NamedRule}
use Rattle.count_core.specs.declared.count_rule.CountRule.{CountRule}

abbrev pub rule_of : NamedRule → CountRule
rule_of n = record { lits = n.lits.now; lo = n.lo; hi = n.hi }
