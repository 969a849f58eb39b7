use Rattle.std.proofs.Common.{sym, ◌∙◌}
use Rattle.draw_tables.specs.Pots.{IsTeamOf}
use Rattle.group_draw.proofs.Teams.{each_rest, first_here, first_later, within_groups}
use Rattle.group_draw.proofs.positions.team_in.Goals as goal

pub returns-then-groups-team-clause-team : goal.returns-then-groups-team-clause-team
returns-then-groups-team-clause-team c =
    let lt = within_groups c.args.file.now c.args.groups.now c.requires.groups c.args.teams.now c.loop-team.team-index (record { 0 = 0 }) c.loop-team-test.true c.loop-team.invariant.teams in
    sym (first_here c.args.groups.now c.args.group c.args.teams.now c.loop-team.team-index (record { 0 = 0 }) c.loop-team-test.true lt c.if-groups-team.true) ∙ c.loop-team.invariant.first

pub loop-team-preserved : goal.loop-team-preserved
loop-team-preserved c =
    let lt = within_groups c.args.file.now c.args.groups.now c.requires.groups c.args.teams.now c.loop-team.team-index (record { 0 = 0 }) c.loop-team-test.true c.loop-team.invariant.teams in
    record {
      first = sym (first_later c.args.groups.now c.args.group c.args.teams.now c.loop-team.team-index (record { 0 = 0 }) c.loop-team-test.true lt c.if-groups-team.false) ∙ c.loop-team.invariant.first;
      teams = each_rest (IsTeamOf c.args.file.now) c.args.teams.now c.loop-team.team-index (record { 0 = 0 }) c.loop-team-test.true c.loop-team.invariant.teams;
    }
