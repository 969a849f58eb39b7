use Rattle.std.proofs.Common.{◌≡◌, arith}
use Rattle.std.proofs.lemmas.Grind.{common_steps}
use Rattle.draw_tables.proofs.Judgements.{pairs_of}
use Rattle.draw_tables.proofs.GroupJudgements.{groups_of_places}
use Rattle.draw_tables.proofs.judging.judge.Goals as goal

pub returns-in-Group-clause-broken : goal.returns-in-Group-clause-broken
returns-in-Group-clause-broken c =
    let table : c.args.table.now ≡ groups_of_places c.places.result.now = grind (arith, common_steps) in
    rw table c.judge_groups.ensures.broken

pub returns-in-Pairs-clause-broken : goal.returns-in-Pairs-clause-broken
returns-in-Pairs-clause-broken c =
    let table : c.args.table.now ≡ pairs_of c.winners.result.now = grind (arith, common_steps) in
    rw table c.judge_pairing.ensures.broken
