use Rattle.std.proofs.Common.{◌∙◌}
use Rattle.stepcheck.proofs.Ended.{ended, completed}
use Rattle.stepcheck.proofs.program.run_program.Goals as goal

pub returns-clause-ends : goal.returns-clause-ends
returns-clause-ends g c =
    let ran = c.run-status.ensures in
    rw (c.in-Ok.is, ← c.deref.ensures.value) (
      c.run-status.result,
      c.exit_code-2.ensures.code ∙ c.number-2.ensures,
      ended c.run-status.result _ _ _ (record {
        accepted = ran.accepted;
        accepted_end = ran.accepted_end;
        accepted_fits = ran.accepted_fits;
        bad = ran.bad;
        bad_end = ran.bad_end;
        bad_fits = ran.bad_fits;
        refused = ran.refused;
        refused_end = ran.refused_end;
        refused_fits = ran.refused_fits;
        usage = ran.usage;
        usage_told = ran.usage_line;
        usage_reads_nothing = ran.usage_reads_nothing;
        read = ran.read;
        source_quiet = ran.source_quiet;
        sink_quiet = ran.sink_quiet;
        read_none = ran.read_none;
        write = ran.write;
        write_part = ran.write_part;
        write_usage = ran.write_usage;
        too_long = ran.too_long;
        too_long_none = ran.too_long_none;
        no_memory_none = ran.no_memory_none;
      }),
    )

pub returns-clause-no_limit : goal.returns-clause-no_limit
returns-clause-no_limit g c =
    rw (c.in-Ok.is, ← c.deref.ensures.value)
    (λ no. (c.run-status.result, c.exit_code-2.ensures.code ∙ c.number-2.ensures, c.run-status.ensures.no_limit no))

pub returns-clause-complete : goal.returns-clause-complete
returns-clause-complete g c =
    let ran = c.run-status.ensures in
    rw (c.in-Ok.is, ← c.deref.ensures.value)
    (λ status calls quiet. (
      c.run-status.result,
      c.exit_code-2.ensures.code ∙ c.number-2.ensures,
      completed status c.run-status.result _ _ (λ h. ran.complete h quiet.0 quiet.1) (λ h. ran.complete_bad h quiet.0 quiet.1)
          (λ h. ran.complete_refused h quiet.0 quiet.1) (λ h. ran.complete_too_long h quiet.0 quiet.1) calls,
    ))
