use Rattle.std.proofs.Common.{◌≡◌, ◌+◌, ◌-◌}
use Rattle.team_files.specs.Heads.{pot_size, first_uneven}
use Rattle.team_files.proofs.checks.check_each_pot.Given as goal

-- each pot before this one has one team for each group
abbrev pub invariant-loop-before : goal.invariant-loop-before
invariant-loop-before l =
    first_uneven (λ pot. pot_size pot l.teams) l.groups (l.before + 1) (l.pots - l.before)
    ≡ first_uneven (λ pot. pot_size pot l.teams) l.groups 1 l.pots
