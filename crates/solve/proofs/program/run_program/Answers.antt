use Rattle.std.proofs.Common.{◌∙◌}
use Rattle.solve.proofs.program.run_program.Goals as goal

pub returns-clause-ends : goal.returns-clause-ends
returns-clause-ends g c =
    rw (c.in-Ok.is, ← c.deref.ensures.value)
    (c.run-status.result, c.exit_code-2.ensures.code ∙ c.number-2.ensures, c.run-status.ensures.ends)

pub returns-clause-complete : goal.returns-clause-complete
returns-clause-complete g c =
    rw (c.in-Ok.is, ← c.deref.ensures.value)
    (c.run-status.result, c.exit_code-2.ensures.code ∙ c.number-2.ensures, c.run-status.ensures.complete)
