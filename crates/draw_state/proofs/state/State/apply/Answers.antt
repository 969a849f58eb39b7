use Rattle.std.proofs.Common.{◌≡◌, Bool, true, List, [], ◌∷◌, ◌++◌}
use Rattle.std.specs.Prelude.{if◌then◌else◌}
use Rattle.std.specs.Arc.{arc_value}
use Rattle.rule_sets.specs.Files.{DrawFile}
use Rattle.draw_tables.specs.declared.moves.Move.{Move}
use Rattle.draw_tables.specs.States.{IsState, IsCandidateMove}
use Rattle.draw_tables.proofs.StateMoves.{state_and_move}
use Rattle.draw_state.proofs.state.State.apply.Goals as goal

grown : (file : DrawFile) (old new : List Move) (m : Move) (b : Bool) → new ≡ (if b then old ++ m ∷ [] else old) → b ≡ true → IsState file old → IsCandidateMove file old m → IsState file new
grown file old new m b e is h next = let all : new ≡ old ++ m ∷ [] = rw is at e in rw all (state_and_move file old m h next)

pub invariant_of-self-2 : goal.invariant_of-self-2
invariant_of-self-2 c =
    let next = rw (c.deref.ensures, c.deref-2.ensures.value) at (c.is_next.ensures.0 c.if-not-is_next.false) in
    grown (arc_value c.self.inside.file) c.self.inside.moves.items c.push.new.self.items c.args.next _ c.push.ensures.items c.if-is_err.ensures.negation c.self.invariant next

pub returns-clause-candidate : goal.returns-clause-candidate
returns-clause-candidate c =
    rw (← c.self.view_is) (rw (c.deref.ensures, c.deref-2.ensures.value) at (c.is_next.ensures.0 c.if-not-is_next.false))

pub returns-then-is_err-clause-no_memory : goal.returns-then-is_err-clause-no_memory
returns-then-is_err-clause-no_memory c = λ _. rw (← c.self.view_is) (rw (c.deref.ensures, c.deref-2.ensures.value) at (c.is_next.ensures.0 c.if-not-is_next.false))
