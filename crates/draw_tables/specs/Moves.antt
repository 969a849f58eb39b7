-- What moves say, whatever the kind of the draw.
use Rattle.std.specs.Prelude.{ℕ, ◌==◌, if◌then◌else◌, Bool, false, List, [], ◌∷◌, Option, Some, None}
use Rattle.std.specs.List.{list_any}
use Rattle.std.specs.Option.{option_or}
use Rattle.team_files.specs.declared.team_id.TeamId.{TeamId}
use Rattle.draw_tables.specs.declared.moves.Move.{Move}
use Rattle.draw_tables.specs.declared.moves.Move.TheVariants.{Drawn, Placed, Positioned, Paired}

-- the last answer that a move gives
abbrev pub last_of : {A : Type 0} → (Move → Option A) → List Move → Option A
last_of f [] = None
last_of f (m ∷ ms) = option_or (last_of f ms) (f m)

-- ---- drawn

-- the move draws the team
abbrev pub draws : TeamId → Move → Bool
draws t (Drawn s) = s.0 == t.0
draws t (Placed s group) = false
draws t (Positioned s position) = false
draws t (Paired r w) = false

-- the team was drawn
abbrev pub is_drawn : TeamId → List Move → Bool
is_drawn t ms = list_any (draws t) ms

-- the team that the move draws
abbrev pub drawn_team : Move → Option TeamId
drawn_team (Drawn t) = Some t
drawn_team (Placed t group) = None
drawn_team (Positioned t position) = None
drawn_team (Paired r w) = None

-- the team that was drawn last
abbrev pub last_drawn : List Move → Option TeamId
last_drawn ms = last_of drawn_team ms

-- ---- placed

-- the team that the move places in a group
abbrev pub placed_team : Move → Option TeamId
placed_team (Drawn t) = None
placed_team (Placed t group) = Some t
placed_team (Positioned t position) = None
placed_team (Paired r w) = None

-- the team that was placed last
abbrev pub last_placed : List Move → Option TeamId
last_placed ms = last_of placed_team ms

-- the group that the move gives the team
abbrev pub group_by : TeamId → Move → Option ℕ
group_by t (Drawn s) = None
group_by t (Placed s group) = if s.0 == t.0 then Some group else None
group_by t (Positioned s position) = None
group_by t (Paired r w) = None

-- the group that the moves give the team
abbrev pub group_in : List Move → TeamId → Option ℕ
group_in ms t = last_of (group_by t) ms

-- ---- positioned

-- the position that the move gives the team
abbrev pub position_by : TeamId → Move → Option ℕ
position_by t (Drawn s) = None
position_by t (Placed s group) = None
position_by t (Positioned s position) = if s.0 == t.0 then Some position else None
position_by t (Paired r w) = None

-- the position that the moves give the team
abbrev pub position_in : List Move → TeamId → Option ℕ
position_in ms t = last_of (position_by t) ms
