-- States grow by a candidate's move and shrink by their last; the phase of a pairing's state.
use Rattle.std.proofs.Common.{◌≡◌, List, [], ◌∷◌, ◌++◌, ap, append_assoc, append-nil}
use Rattle.team_files.specs.declared.kind.Kind.{Kind}
use Rattle.rule_sets.specs.Files.{DrawFile}
use Rattle.draw_tables.specs.declared.moves.Move.{Move}
use Rattle.draw_tables.specs.PairingPhases.{pairing_phase}
use Rattle.draw_tables.specs.States.{phase_by, phase_of, IsCandidateMove, AreMovesAfter, IsState}

-- moves with a candidate's move added
pub one_more : (file : DrawFile) (before ms : List Move) (m : Move)
    → AreMovesAfter file before ms → IsCandidateMove file (before ++ ms) m → AreMovesAfter file before (ms ++ m ∷ [])
one_more file before [] m h next = (rw append-nil at next, tt)
one_more file before (n ∷ ms) m h next = (h.0, one_more file (before ++ n ∷ []) ms m h.1 (rw append_assoc next))

-- moves without their last
pub one_less : (file : DrawFile) (before ms : List Move) (m : Move) → AreMovesAfter file before (ms ++ m ∷ []) → AreMovesAfter file before ms
one_less file before [] m h = tt
one_less file before (n ∷ ms) m h = (h.0, one_less file (before ++ n ∷ []) ms m h.1)

-- A state with a candidate's move added is a state.
pub state_and_move : (file : DrawFile) (ms : List Move) (m : Move) → IsState file ms → IsCandidateMove file ms m → IsState file (ms ++ m ∷ [])
state_and_move file ms m state next = one_more file [] ms m state next

-- A state without its last move is a state.
pub state_before_move : (file : DrawFile) (ms : List Move) (m : Move) → IsState file (ms ++ m ∷ []) → IsState file ms
state_before_move file ms m state = one_less file [] ms m state

-- The phase of a pairing.
pub phase_of_pairing : (file : DrawFile) (ms : List Move) → file.kind ≡ Kind.Pairing → phase_of file ms ≡ pairing_phase file ms
phase_of_pairing file ms kind = ap (λ k. phase_by k file ms) kind
