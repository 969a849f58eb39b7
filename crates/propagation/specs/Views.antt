-- A constraint as the code has it.
use Rattle.count_core.specs.declared.count_rule.CountRule.{CountRule}
use Rattle.propagation.specs.declared.constraint.Constraint.{Constraint}

-- the rule with its literals and bounds
abbrev pub rule_in : Constraint → CountRule
rule_in c = record { lits = c.lits.now; lo = c.lo; hi = c.hi }
