-- What a hint names, as this crate's code has it.
use Rattle.count_core.specs.declared.count_rule.CountRule.{CountRule}
use Rattle.refutations.specs.declared.hint_check.NamedRule.{NamedRule}

-- the rule with these literals and bounds
abbrev pub rule_of : NamedRule → CountRule
rule_of n = record { lits = n.lits.now; lo = n.lo; hi = n.hi }
