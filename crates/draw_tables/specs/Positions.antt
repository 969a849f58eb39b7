-- Which positions of a group are held, and by whom. A position that is held cannot be drawn.
use Rattle.std.specs.Prelude.{◌≡◌, ◌≢◌, ℕ, ◌⊎◌, List, [], ◌∷◌, ◌++◌, Some}
use Rattle.team_files.specs.declared.kind.Kind.{Kind}
use Rattle.team_files.specs.declared.team_id.TeamId.{TeamId}
use Rattle.rule_sets.specs.declared.place.Place.{Place}
use Rattle.rule_sets.specs.Files.{DrawFile}
use Rattle.draw_tables.specs.declared.moves.Move.{Move}
use Rattle.draw_tables.specs.declared.moves.Move.TheVariants.{Positioned}
use Rattle.draw_tables.specs.Lists.{IsAmong}
use Rattle.draw_tables.specs.Moves.{group_in}
use Rattle.draw_tables.specs.Offers.{IsCompletable}

-- ---- who holds a position of a team's group

-- the move gives another team of the group the position
pub record Takes (ms : List Move) (t : TeamId) (group position : ℕ) (m : Move) (other : TeamId) : Type 0 where
  pub move : m ≡ Positioned other position
  pub differs : other.0 ≢ t.0
  pub stands : group_in ms other ≡ Some group

-- another team of the group has the position by a ball
pub record IsTakenByMove (ms : List Move) (t : TeamId) (group position : ℕ) (other : TeamId) : Type 0 where
  pub differs : other.0 ≢ t.0
  pub stands : group_in ms other ≡ Some group
  pub move : IsAmong ms (Positioned other position)

-- another team has the position of the group by a fixed place
pub record IsTakenByPlace (file : DrawFile) (t : TeamId) (group position : ℕ) (other : TeamId) : Type 0 where
  pub differs : other.0 ≢ t.0
  pub fixed : IsAmong file.places (record { team = other; group = group; position = position })

-- another team has the position, by a ball or by a fixed place
abbrev pub IsTaken : DrawFile → List Move → TeamId → ℕ → ℕ → TeamId → Type 0
IsTaken file ms t group position other =
    IsTakenByMove ms t group position other ⊎ IsTakenByPlace file t group position other

-- the team's own fixed place has another position
pub record HasOtherPlace (file : DrawFile) (t : TeamId) (position : ℕ) : Type 0 where
  pub place : Place
  pub fixed : IsAmong file.places place
  pub own : place.team ≡ t
  pub other : place.position ≢ position

-- The position of the group is held for the team: another team has it, or the team's own fixed place has another position.
abbrev pub IsHeld : DrawFile → List Move → TeamId → ℕ → ℕ → Type 0
IsHeld file ms t group position =
    ((other : TeamId) × IsTaken file ms t group position other) ⊎ HasOtherPlace file t position

-- The team that is told as the holder: the other team that has the position; where none has it, the team itself, whose fixed place has another.
abbrev pub IsHolder : DrawFile → List Move → TeamId → ℕ → ℕ → TeamId → Type 0
IsHolder file ms t group position holder =
    IsTaken file ms t group position holder
    ⊎ ((holder ≡ t) × HasOtherPlace file t position
    × ((other : TeamId) → ¬ IsTaken file ms t group position other))

-- The positions of the moves are clean: none that a ball gave is held.
abbrev pub HasCleanPositions : DrawFile → List Move → Type 0
HasCleanPositions file ms = (t : TeamId) (group position : ℕ)
    → IsAmong ms (Positioned t position) → group_in ms t ≡ Some group
    → ¬ IsHeld file ms t group position

-- ---- laws

-- A position that is not held leaves the positions clean.
abbrev pub StaysClean : Type 0
StaysClean = (file : DrawFile) (ms : List Move) (t : TeamId) (group position : ℕ)
    → HasCleanPositions file ms → group_in ms t ≡ Some group
    → ¬ IsHeld file ms t group position → HasCleanPositions file (ms ++ Positioned t position ∷ [])

-- A position that is held is not possible: the moves with it can't be completed.
abbrev pub HeldIsImpossible : Type 0
HeldIsImpossible = (file : DrawFile) (ms : List Move) (t : TeamId) (group position : ℕ)
    → group_in ms t ≡ Some group → IsHeld file ms t group position
    → ¬ IsCompletable file (ms ++ Positioned t position ∷ [])

-- Where the moves can be completed, a position has at most one holder.
abbrev pub OneHolder : Type 0
OneHolder = (file : DrawFile) (ms : List Move) (t a b : TeamId) (group position : ℕ)
    → file.kind ≡ Kind.Group → IsCompletable file ms
    → IsHolder file ms t group position a → IsHolder file ms t group position b → a ≡ b
