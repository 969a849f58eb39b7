use Rattle.std.proofs.Common.{◌≡◌, length, rules}
use Rattle.draw_tables.specs.Pots.{runners_up, winners}
use Rattle.pairing_draw.specs.Encoding.{IsRead}
use Rattle.pairing_draw.proofs.ReadTables.{row_true, legal, extends, read_teams}
use Rattle.pairing_draw.proofs.decoding.decode.Goals as goal

pub read_rows-requires-clause-each : goal.read_rows-requires-clause-each
read_rows-requires-clause-each c = λ r lt. rw (c.deref.ensures.value, c.in_ok-winners.ensures.teams) (row_true c.args.file.now c.args.values.now c.requires.rules r (let size : c.len.result ≡ length (runners_up c.args.file.now) = rw (← c.in_ok-runners.ensures.teams) (search rules) in rw (← size) lt))

pub returns-clause-legal : goal.returns-clause-legal
returns-clause-legal c = (c.requires.kind, legal c.args.file.now c.args.values.now c.requires.rules c.new.result.winners (search rules))

pub returns-clause-extends : goal.returns-clause-extends
returns-clause-extends c = extends c.args.file.now c.args.values.now c.requires.rules c.new.result.winners (search rules) c.args.moves.now c.requires.kind c.requires.state c.requires.moves

pub returns-clause-of_file : goal.returns-clause-of_file
returns-clause-of_file c =
    let read : IsRead c.args.values.now (length (runners_up c.args.file.now)) (winners c.args.file.now) c.new.result.winners = search rules in
    let teams = rw c.in_ok-winners.ensures.teams at c.in_ok-winners.ensures.within in
    record { kind = c.requires.kind; size = read.size; teams = read_teams c.args.file.now c.args.values.now (length (runners_up c.args.file.now)) (winners c.args.file.now) c.new.result.winners teams read }
