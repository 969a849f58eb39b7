-- What comes next in a pairing: a runner-up's ball, and then the ball of its opponent.
use Rattle.std.specs.Prelude.{◌==◌, not, Bool, false, List, [], ◌∷◌, filter, Option, Some, None, option_and_then}
use Rattle.std.specs.List.{list_any}
use Rattle.team_files.specs.declared.team_id.TeamId.{TeamId}
use Rattle.team_files.specs.Members.{where_true}
use Rattle.rule_sets.specs.Files.{DrawFile}
use Rattle.draw_tables.specs.declared.moves.Move.{Move}
use Rattle.draw_tables.specs.declared.moves.Move.TheVariants.{Drawn, Placed, Positioned, Paired}
use Rattle.draw_tables.specs.declared.moves.Phase.{Phase}
use Rattle.draw_tables.specs.declared.moves.Phase.TheVariants.{Runner, Opponent, Complete}
use Rattle.draw_tables.specs.Pots.{winners, runners_up}
use Rattle.draw_tables.specs.Moves.{is_drawn, last_drawn}

-- ---- what the moves say

-- the move gives the runner-up an opponent
abbrev pub pairs_runner_up : TeamId → Move → Bool
pairs_runner_up t (Drawn s) = false
pairs_runner_up t (Placed s group) = false
pairs_runner_up t (Positioned s position) = false
pairs_runner_up t (Paired r w) = r.0 == t.0

-- the runner-up has an opponent
abbrev pub has_opponent : TeamId → List Move → Bool
has_opponent t ms = list_any (pairs_runner_up t) ms

-- the move gives the winner to a runner-up
abbrev pub pairs_winner : TeamId → Move → Bool
pairs_winner t (Drawn s) = false
pairs_winner t (Placed s group) = false
pairs_winner t (Positioned s position) = false
pairs_winner t (Paired r w) = w.0 == t.0

-- the winner is paired
abbrev pub is_paired : TeamId → List Move → Bool
is_paired t ms = list_any (pairs_winner t) ms

-- the last drawn runner-up, where it has no opponent
abbrev pub waiting_runner_up : List Move → Option TeamId
waiting_runner_up ms = option_and_then (λ r. where_true (not (has_opponent r ms)) r) (last_drawn ms)

-- the runners-up that were not drawn, in file order
abbrev pub undrawn_runners_up : DrawFile → List Move → List TeamId
undrawn_runners_up file ms = filter (λ r. not (is_drawn r ms)) (runners_up file)

-- the winners that are not paired, in file order
abbrev pub unpaired_winners : DrawFile → List Move → List TeamId
unpaired_winners file ms = filter (λ w. not (is_paired w ms)) (winners file)

-- ---- the phase

-- the phase by who waits and who is undrawn
abbrev pub pairing_phase_with : Option TeamId → List TeamId → Phase
pairing_phase_with (Some r) left = Opponent r
pairing_phase_with None [] = Complete
pairing_phase_with None (r ∷ rs) = Runner

-- Opponent where the last drawn runner-up has no opponent; else Runner where some runner-up is undrawn; else Complete
abbrev pub pairing_phase : DrawFile → List Move → Phase
pairing_phase file ms = pairing_phase_with (waiting_runner_up ms) (undrawn_runners_up file ms)
