use Rattle.std.proofs.Common.{◌≡◌, ◌∙◌, Some, refl, sym, ap, subst}
use Rattle.count_core.specs.Assignments.{SatisfiesQuestion}
use Rattle.draw_tables.specs.declared.moves.Choice.{Choice}
use Rattle.draw_tables.specs.Moves.{group_in}
use Rattle.draw_tables.specs.Positions.{IsHeld, IsHolder}
use Rattle.offer_engine.proofs.Standings.{later_clean, later_lits, position_group, position_move}
use Rattle.offer_engine.proofs.answering.standing_of_position.Goals as goal

pub unreachable-requires : goal.unreachable-requires
unreachable-requires c =
    let state = c.args.state.now in
    let move = position_move state.file state.moves c.args.team c.requires.phase c.args.choice c.requires.candidate in
    c.in_default.not-Position move.0 move.1

pub unreachable-requires-in_default-group_in : goal.unreachable-requires-in_default-group_in
unreachable-requires-in_default-group_in c =
    let state = c.args.state.now in
    let group = position_group state.file state.moves c.args.team c.requires.phase in
    c.in_default-group_in.not-Some group.0 (c.group_in.ensures ∙ ap (λ ms. group_in ms c.args.team) c.moves.ensures ∙ group.1)

pub returns-in-Some-holder_of-clause-right : goal.returns-in-Some-holder_of-clause-right
returns-in-Some-holder_of-clause-right c =
    let state = c.args.state.now in
    let holds : IsHolder state.file state.moves c.args.team c.in-Some.group c.in-Position.position c.in-Some-holder_of.holder = rw (c.file.ensures.file, c.moves-2.ensures) at c.in-Some-holder_of.ensures in
    record {
      team = c.args.team;
      group = c.in-Some.group;
      position = c.in-Position.position;
      phase = c.requires.phase;
      stands = sym (ap (λ ms. group_in ms c.args.team) c.moves.ensures) ∙ sym c.group_in.ensures ∙ c.in-Some.is;
      choice = c.in-Position.is;
      candidate = c.requires.candidate;
      holds = holds;
      completable = c.requires.completable;
    }

pub table_of-requires-clause-clean : goal.table_of-requires-clause-clean
table_of-requires-clause-clean c =
    let state = c.args.state.now in
    let stands : group_in state.moves c.args.team ≡ Some c.in-Some.group = sym (ap (λ ms. group_in ms c.args.team) c.moves.ensures) ∙ sym c.group_in.ensures ∙ c.in-Some.is in
    let free : ¬ IsHeld state.file state.moves c.args.team c.in-Some.group c.in-Position.position = rw (c.file.ensures.file, c.moves-2.ensures) at c.in_default-holder_of.ensures in
    later_clean state c.in_ok-later.later c.args.team (Choice.Position c.in-Position.position) c.in-Position.position c.requires.phase refl c.in_ok-later.ensures
    c.law_held_positions.ensures.clean c.requires.clean c.in-Some.group stands free

pub table_of-requires-clause-moves : goal.table_of-requires-clause-moves
table_of-requires-clause-moves c =
    subst (λ q. SatisfiesQuestion c.args.values.now q)
    (later_lits c.args.state.now c.in_ok-later.later c.args.team (Choice.Position c.in-Position.position) c.in-Position.position c.requires.phase refl c.in_ok-later.ensures) c.requires.moves
