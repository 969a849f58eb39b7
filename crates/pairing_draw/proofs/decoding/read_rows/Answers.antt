use Rattle.std.proofs.Common.{rules, Some, ◌≡◌}
use Rattle.std.proofs.lemmas.Bool.{some_since}
use Rattle.pairing_draw.proofs.ReadTables.{read_more}
use Rattle.pairing_draw.proofs.decoding.read_rows.Goals as goal

pub unwrap-requires : goal.unwrap-requires
unwrap-requires c = some_since c.winner_of.result _ _ c.winner_of.ensures (λ none. none (c.requires.each c.loop-runner.runner c.loop-runner-test.true))

pub loop-runner-preserved : goal.loop-runner-preserved
loop-runner-preserved c =
    let is : c.winner_of.result ≡ Some c.unwrap.result = search rules in
    read_more c.args.values.now c.loop-runner.runner c.args.winners.now c.loop-runner.given.items _ c.unwrap.result c.loop-runner.invariant (rw is at c.winner_of.ensures) c.in_ok-push.ensures.items
