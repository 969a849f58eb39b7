-- What is possible in a group draw: clean positions, offers, and positions that are not held.
use Rattle.std.specs.Prelude.{◌≡◌, ◌↔◌, ℕ, List, Some}
use Rattle.team_files.specs.declared.kind.Kind.{Kind}
use Rattle.team_files.specs.declared.team_id.TeamId.{TeamId}
use Rattle.rule_sets.specs.Files.{DrawFile, IsWellFormed}
use Rattle.draw_tables.specs.declared.moves.Move.{Move}
use Rattle.draw_tables.specs.declared.moves.Choice.{Choice}
use Rattle.draw_tables.specs.declared.moves.Choice.TheVariants as choice
use Rattle.draw_tables.specs.declared.moves.Phase.TheVariants as phase
use Rattle.draw_tables.specs.Lists.{IsAmong}
use Rattle.draw_tables.specs.Moves.{group_in}
use Rattle.draw_tables.specs.Positions.{HasCleanPositions, IsHeld}
use Rattle.draw_tables.specs.States.{IsState, candidates, phase_of}
use Rattle.draw_tables.specs.Offers.{IsCompletable, IsOffer, IsPossible}

-- Moves that can be completed have clean positions.
abbrev pub CompletableIsClean : Type 0
CompletableIsClean = (file : DrawFile) (ms : List Move)
    → file.kind ≡ Kind.Group → IsCompletable file ms → HasCleanPositions file ms

-- Each state of a group draw has an offer.
abbrev pub OfferExists : Type 0
OfferExists = (file : DrawFile) (ms : List Move)
    → file.kind ≡ Kind.Group → IsWellFormed file → IsState file ms
    → (os : List Choice) × IsOffer file ms os

-- In a completable state with clean positions, a position that is a candidate is possible exactly
-- where it is not held.
abbrev pub PossibleWhereNotHeld : Type 0
PossibleWhereNotHeld = (file : DrawFile) (ms : List Move) (t : TeamId) (group position : ℕ)
    → file.kind ≡ Kind.Group → IsWellFormed file → IsState file ms
    → HasCleanPositions file ms → IsCompletable file ms
    → phase_of file ms ≡ phase.Position t → group_in ms t ≡ Some group
    → IsAmong (candidates file ms) (choice.Position position)
    → (IsPossible file ms (choice.Position position) ↔ ¬ IsHeld file ms t group position)
