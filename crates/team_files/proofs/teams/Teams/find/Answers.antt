use Rattle.std.proofs.Common.{Some, None}
use Rattle.team_files.proofs.CodeSets.{found}
use Rattle.team_files.proofs.teams.Teams.find.Goals as goal

pub returns-in_err-place : goal.returns-in_err-place
returns-in_err-place c = let e = found c.args.code c.self.inside.codes.keys c.self.inside.teams.items None c.self.invariant.1 c.in_err-place.ensures.index in cc

pub returns : goal.returns
returns c = let e = found c.args.code c.self.inside.codes.keys c.self.inside.teams.items (Some c.in_ok-place.place) c.self.invariant.1 c.in_ok-place.ensures.index in cc
