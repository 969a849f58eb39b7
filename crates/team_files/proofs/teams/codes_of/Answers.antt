use Rattle.std.proofs.Common.{◌∙◌, sym}
use Rattle.team_files.proofs.CodeSets.{repeated, added, goes_on}
use Rattle.team_files.proofs.teams.codes_of.Goals as goal

pub returns-then-not-is_new-clause-fault : goal.returns-then-not-is_new-clause-fault
returns-then-not-is_new-clause-fault c = λ _. sym c.loop-team.invariant.none ∙ repeated c.args.teams.now c.loop-team.team-index c.team-item.result c.loop-team.codes.keys c.in_ok-is_new.is_new c.loop-team-test.true c.team-item.is c.loop-team.invariant.codes c.in_ok-is_new.ensures.added c.if-not-is_new.true

pub loop-team-preserved : goal.loop-team-preserved
loop-team-preserved c = record {
  codes = c.in_ok-is_new.ensures.keys ∙ added c.args.teams.now c.loop-team.team-index c.team-item.result c.loop-team.codes.keys c.in_ok-is_new.is_new c.loop-team-test.true c.team-item.is c.loop-team.invariant.codes c.in_ok-is_new.ensures.added c.if-not-is_new.false;
  none = goes_on c.args.teams.now c.loop-team.team-index c.team-item.result c.loop-team.codes.keys c.in_ok-is_new.is_new c.loop-team-test.true c.team-item.is c.loop-team.invariant.codes c.in_ok-is_new.ensures.added c.if-not-is_new.false ∙ c.loop-team.invariant.none;
}
