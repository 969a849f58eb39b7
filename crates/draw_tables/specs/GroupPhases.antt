-- What comes next in a group draw (FIFA's procedure of 2018 and 2022): a team's ball, the group that it takes, and the ball of its position. The group has no ball of its own, and a team of pot 1 takes position 1 without a ball.
use Rattle.std.specs.Prelude.{ℕ, ◌==◌, ◌&&◌, not, Bool, false, List, [], filter, find, Option, Some, None, option_and_then, is_none}
use Rattle.std.specs.List.{list_any}
use Rattle.team_files.specs.declared.team_id.TeamId.{TeamId}
use Rattle.team_files.specs.Members.{where_true}
use Rattle.rule_sets.specs.Files.{DrawFile}
use Rattle.draw_tables.specs.declared.moves.Move.{Move}
use Rattle.draw_tables.specs.declared.moves.Move.TheVariants.{Drawn, Placed, Positioned, Paired}
use Rattle.draw_tables.specs.declared.moves.Phase.{Phase}
use Rattle.draw_tables.specs.declared.moves.Phase.TheVariants.{Team, Group, Position, Complete}
use Rattle.draw_tables.specs.Pots.{teams_of_pot, pot_of, is_of_pot, groups_of, pots_of}
use Rattle.draw_tables.specs.Moves.{is_drawn, last_drawn, last_placed, group_in, position_in}

-- ---- what the moves say

-- the last drawn team, where it has no group
abbrev pub without_group : List Move → Option TeamId
without_group ms = option_and_then (λ t. where_true (is_none (group_in ms t)) t) (last_drawn ms)

-- a ball gives the team its position: it is of pot 2 or higher
abbrev pub has_position_ball : DrawFile → TeamId → Bool
has_position_ball file t = not (is_of_pot file 1 t)

-- the last placed team, where it is of pot 2 or higher and has no position
abbrev pub without_position : DrawFile → List Move → Option TeamId
without_position file ms =
    option_and_then (λ t. where_true (has_position_ball file t && is_none (position_in ms t)) t) (
    last_placed ms)

-- the undrawn teams of a pot, in file order
abbrev pub undrawn_of_pot : DrawFile → List Move → ℕ → List TeamId
undrawn_of_pot file ms pot = filter (λ t. not (is_drawn t ms)) (teams_of_pot pot file)

-- some team of the pot is undrawn
abbrev pub has_undrawn : DrawFile → List Move → ℕ → Bool
has_undrawn file ms pot = list_any (λ t. not (is_drawn t ms)) (teams_of_pot pot file)

-- the lowest pot that has undrawn teams
abbrev pub open_pot : DrawFile → List Move → Option ℕ
open_pot file ms = find (has_undrawn file ms) (pots_of file)

-- ---- the phase

-- the phase by who has no group, who has no position, and which pot is open
abbrev pub group_phase_with : Option TeamId → Option TeamId → Option ℕ → Phase
group_phase_with (Some t) position pot = Group t
group_phase_with None (Some t) pot = Position t
group_phase_with None None (Some pot) = Team pot
group_phase_with None None None = Complete

-- Group where the last drawn team has no group; else Position where the last placed team is of pot 2 or higher and has no position; else Team where some team is undrawn; else Complete
abbrev pub group_phase : DrawFile → List Move → Phase
group_phase file ms =
    group_phase_with (without_group ms) (without_position file ms) (open_pot file ms)

-- ---- the groups that a team may take

-- the move places a team of the pot in the group
abbrev pub places_in : DrawFile → ℕ → ℕ → Move → Bool
places_in file pot group (Drawn s) = false
places_in file pot group (Placed s k) = k == group && is_of_pot file pot s
places_in file pot group (Positioned s position) = false
places_in file pot group (Paired r w) = false

-- a team of the pot was placed in the group
abbrev pub has_placed : DrawFile → List Move → ℕ → ℕ → Bool
has_placed file ms pot group = list_any (places_in file pot group) ms

-- the groups without a placed team of the pot, by letter
abbrev pub open_groups : DrawFile → List Move → Option ℕ → List ℕ
open_groups file ms None = []
open_groups file ms (Some pot) = filter (λ group. not (has_placed file ms pot group)) (groups_of file)

-- the groups without a placed team of the team's pot, by letter
abbrev pub groups_for : DrawFile → List Move → TeamId → List ℕ
groups_for file ms t = open_groups file ms (pot_of file t)
