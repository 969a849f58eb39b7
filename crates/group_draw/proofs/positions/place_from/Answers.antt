use Rattle.group_draw.proofs.FilledPlaces.{place_bound, place_value}
use Rattle.group_draw.proofs.positions.place_from.Goals as goal

pub bounds-positions-group : goal.bounds-positions-group
bounds-positions-group c = place_bound c.args.file.now c.requires.pots c.args.groups.now c.requires.groups c.args.positions.now c.requires.positions c.args.place c.get.result.now (rw c.teams.ensures at c.get.ensures) c.pots.result c.pots.ensures

pub returns : goal.returns
returns c = place_value c.args.file.now c.requires.pots c.args.groups.now c.requires.groups c.args.positions.now c.requires.positions c.args.place c.get.result.now (rw c.teams.ensures at c.get.ensures) c.pots.result c.pots.ensures
