use Rattle.std.proofs.Common.{◌≡◌, None}
use Rattle.count_core.specs.Problems.{first_fault}
use Rattle.count_core.proofs.Rules.{rules_well_formed, well_formed_rules}
use Rattle.count_core.proofs.problem.Problem.build.Goals as goal

pub invariant_of-result : goal.invariant_of-result
invariant_of-result c =
    let none : first_fault c.args.atoms 0 c.args.rules.items ≡ None = cc (c.in-Ok-None.ensures, c.in-Ok-None.field-0-is, c.as_slice.ensures.value) in
    record { rules = rules_well_formed c.args.atoms 0 c.args.rules.items none; few = c.requires.few }

pub returns-in-Ok-Some-clause-formed : goal.returns-in-Ok-Some-clause-formed
returns-in-Ok-Some-clause-formed c = λ h.
    let none = well_formed_rules c.args.atoms 0 c.args.rules.items h.rules in
    cc (c.in-Ok-Some.ensures, c.in-Ok-Some.field-0-is, c.as_slice.ensures.value)
