use Rattle.std.proofs.Common.{sym, ◌∙◌}
use Rattle.team_files.specs.Heads.{pot_size}
use Rattle.team_files.proofs.UnevenPots.{uneven_step}
use Rattle.team_files.proofs.checks.check_each_pot.Goals as goal

pub loop-before-preserved : goal.loop-before-preserved
loop-before-preserved c =
    let even = sym c.pot_size-number.ensures ∙ c.if-number-groups.false in
    uneven_step (λ pot. pot_size pot c.args.teams.now) c.args.groups c.args.pots c.loop-before.before c.loop-before-test.true even ∙ c.loop-before.invariant
