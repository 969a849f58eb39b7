use Rattle.std.proofs.Common.{◌≡◌, [], ◌∷◌, ◌++◌, ap, ◌∙◌}
use Rattle.std.specs.Arc.{arc_value}
use Rattle.draw_tables.specs.declared.moves.Move.{Move}
use Rattle.draw_state.proofs.TakenOff.{state_kept, placed_off, state_without}
use Rattle.draw_state.proofs.state.State.undo.Goals as goal

pub invariant_of-self-in-Placed : goal.invariant_of-self-in-Placed
invariant_of-self-in-Placed c =
    let mid = c.take_last.new.moves.items in
    let placed : c.self.inside.moves.items ≡ mid ++ Move.Placed c.in-Placed.field-0 c.in-Placed.field-1 ∷ [] = c.in_ok-last.ensures ∙ ap (λ m. mid ++ m ∷ []) c.in-Placed.is in
    state_without (arc_value c.self.inside.file) c.self.inside.moves.items mid c.in-Placed.field-0 c.in-Placed.field-1 placed c.self.invariant
    c.take_last-in-Placed.new.moves.items c.take_last-in-Placed.result c.take_last-in-Placed.ensures

pub invariant_of-self-in-Drawn : goal.invariant_of-self-in-Drawn
invariant_of-self-in-Drawn c =
    state_kept (arc_value c.self.inside.file) c.self.inside.moves.items c.take_last.new.moves.items c.take_last.result c.take_last.ensures c.self.invariant

pub returns-in-Placed-clause-moves : goal.returns-in-Placed-clause-moves
returns-in-Placed-clause-moves c =
    let mid = c.take_last.new.moves.items in
    let placed : c.self.inside.moves.items ≡ mid ++ Move.Placed c.in-Placed.field-0 c.in-Placed.field-1 ∷ [] = c.in_ok-last.ensures ∙ ap (λ m. mid ++ m ∷ []) c.in-Placed.is in
    rw (← c.self.view_is) (placed_off (arc_value c.self.inside.file) c.self.inside.moves.items mid c.in-Placed.field-0 c.in-Placed.field-1 placed c.self.invariant
    c.take_last-in-Placed.new.moves.items c.take_last-in-Placed.result c.take_last-in-Placed.ensures)
