use Rattle.std.proofs.Common.{◌≤◌, arith}
use Rattle.std.proofs.lemmas.Grind.{common_steps}
use Rattle.std.proofs.lemmas.List.Elements.{All-rest}
use Rattle.team_files.specs.declared.fields.TeamFields.{TeamFields}
use Rattle.team_files.specs.Heads.{most_pots}
use Rattle.team_files.proofs.checks.teams_from.Goals as goal

pub loop-fields-preserved : goal.loop-fields-preserved
loop-fields-preserved c = record {
  teams = grind (arith, common_steps);
  number = grind (arith, common_steps);
  pots = All-rest (λ (f : TeamFields). f.pot ≤ most_pots) c.in-Some.fields _ _ c.in-Some.ensures.steps.0 c.loop-fields.invariant.pots;
  left = grind (arith, common_steps);
}
