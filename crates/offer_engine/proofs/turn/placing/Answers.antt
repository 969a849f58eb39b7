use Rattle.std.proofs.Common.{◌<◌, length, sym, subst}
use Rattle.offer_engine.specs.Questions.{AddsMoveOf}
use Rattle.offer_engine.proofs.TurnGroups.{first_candidate, some_offered, takes_first}
use Rattle.offer_engine.proofs.turn.placing.Goals as goal

pub index-requires : goal.index-requires
index-requires c =
    let v = c.in_ok-offered.offered in
    let takes = c.requires.some in
    let some : 0 < length v.items = some_offered c.args.offer.now.state v.items c.in_ok-offered.ensures c.law_offered_where_possible.ensures takes.0 takes.1 in
    subst (λ n. 0 < n) (sym v.ok.0) some

pub state_with-requires : goal.state_with-requires
state_with-requires c =
    let state = c.args.offer.now.state in
    let v = c.in_ok-offered.offered in
    let takes = c.requires.some in
    let some : 0 < length v.items = some_offered state v.items c.in_ok-offered.ensures c.law_offered_where_possible.ensures takes.0 takes.1 in
    rw c.state.ensures.state (first_candidate state v.items c.in_ok-offered.ensures c.index.result.now some c.index.ensures)

pub returns : goal.returns
returns c =
    let state = c.args.offer.now.state in
    let v = c.in_ok-offered.offered in
    let takes = c.requires.some in
    let some : 0 < length v.items = some_offered state v.items c.in_ok-offered.ensures c.law_offered_where_possible.ensures takes.0 takes.1 in
    let adds : AddsMoveOf state c.index.result.now c.in_ok-next.next = rw c.state.ensures.state at c.in_ok-next.ensures in
    (c.in_ok-next.next, takes_first state v.items c.in_ok-offered.ensures c.index.result.now some c.index.ensures takes.0 c.in_ok-next.next takes.1 adds, c.in_ok-course.ensures)
