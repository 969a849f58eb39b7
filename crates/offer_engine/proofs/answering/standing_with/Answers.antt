use Rattle.draw_tables.specs.Positions.{HasCleanPositions}
use Rattle.offer_engine.specs.Offers.{Shows}
use Rattle.offer_engine.proofs.StateQuestions.{at_later, of_later}
use Rattle.offer_engine.proofs.Standings.{shown_stands}
use Rattle.offer_engine.proofs.answering.standing_with.Goals as goal

pub standing_of-requires-clause-clean : goal.standing_of-requires-clause-clean
standing_of-requires-clause-clean c =
    let h = c.in_ok-later.ensures in
    at_later HasCleanPositions c.args.state.now c.in_ok-later.later c.args.choice h (c.requires.stays h.0 (c.args.choice, h.1))

pub returns-clause-right : goal.returns-clause-right
returns-clause-right c =
    let state = c.args.state.now in
    let standing = c.in_ok-standing.standing in
    let h = c.in_ok-later.ensures in
    shown_stands state.file state.moves c.args.choice h.0 standing h.1 (of_later (λ file ms. Shows file ms standing) state c.in_ok-later.later c.args.choice h c.in_ok-standing.ensures.shows)
