-- The teams of a pot, and the candidates, are of the file.
use Rattle.std.proofs.Common.{ℕ, ◌+◌, ◌-◌, ◌<◌, ◌≤◌, Bool, true, false, List, [], ◌∷◌, length, Option, Some, None, arith}
use Rattle.std.specs.Prelude.{not, ◌==◌, if◌then◌else◌}
use Rattle.std.specs.List.{AllByRecursion as Each}
use Rattle.team_files.specs.declared.team.Team.{Team}
use Rattle.team_files.specs.declared.team_id.TeamId.{TeamId}
use Rattle.rule_sets.specs.Files.{DrawFile}
use Rattle.draw_tables.specs.declared.moves.Move.{Move}
use Rattle.draw_tables.specs.declared.moves.Phase.{Phase}
use Rattle.draw_tables.specs.declared.moves.Phase.TheVariants as phase
use Rattle.draw_tables.specs.Pots.{pot_from, AreTeamsOf, winners, teams_of_pot, pot_of, groups_of, later_positions}
use Rattle.draw_tables.specs.Moves.{is_drawn}
use Rattle.draw_tables.specs.GroupPhases.{undrawn_of_pot, has_placed, open_groups, groups_for}
use Rattle.draw_tables.specs.PairingPhases.{is_paired, unpaired_winners}
use Rattle.draw_tables.specs.States.{team_choices, group_choices, position_choices, candidates_in}
use Rattle.draw_tables.specs.Names.{IsLaterPosition, AreFileChoices}
use Rattle.draw_tables.proofs.Lists.{each_from, each_kept, in_range}

either : (file : DrawFile) (t : TeamId) (ts : List TeamId) (b : Bool)
    → t.0 < length file.teams → AreTeamsOf file ts → AreTeamsOf file (if b then t ∷ ts else ts)
either file t ts true lt h = (lt, h)
either file t ts false lt h = h

pot_within : (file : DrawFile) (pot i : ℕ) (ts : List Team)
    → i + length ts ≤ length file.teams → AreTeamsOf file (pot_from pot i ts)
pot_within file pot i [] le = tt
pot_within file pot i (t ∷ ts) le = either file (record { 0 = i }) (pot_from pot (i + 1) ts) (t.pot == pot) (omega arith) (pot_within file pot (i + 1) ts (omega arith))

-- the teams of a pot are of the file
pub teams_within : (file : DrawFile) (pot : ℕ) → AreTeamsOf file (teams_of_pot pot file)
teams_within file pot = pot_within file pot 0 file.teams (omega arith)

-- ---- candidates

choices_of : (file : DrawFile) (ts : List TeamId) → AreTeamsOf file ts → AreFileChoices file (team_choices ts)
choices_of file [] h = tt
choices_of file (t ∷ ts) h = (h.0, choices_of file ts h.1)

undrawn_of : (file : DrawFile) (ms : List Move) (pot : ℕ) → AreFileChoices file (team_choices (undrawn_of_pot file ms pot))
undrawn_of file ms pot =
    choices_of file (undrawn_of_pot file ms pot) (each_kept (λ t. t.0 < length file.teams) (λ t. not (is_drawn t ms)) (teams_of_pot pot file) (teams_within file pot))

groups_of_file : (file : DrawFile) (gs : List ℕ) → Each (λ g. g < file.groups) gs → AreFileChoices file (group_choices gs)
groups_of_file file [] h = tt
groups_of_file file (g ∷ gs) h = (h.0, groups_of_file file gs h.1)

open_within : (file : DrawFile) (ms : List Move) (pot : Option ℕ) → Each (λ g. g < file.groups) (open_groups file ms pot)
open_within file ms None = tt
open_within file ms (Some pot) =
    each_kept (λ g. g < file.groups) (λ g. not (has_placed file ms pot g)) (groups_of file)
    (each_from (λ g. g < file.groups) (groups_of file) (λ g among. let h = in_range 0 file.groups among.0 g among.1 in let high = h.1 in omega arith))

positions_of_file : (file : DrawFile) (ps : List ℕ) → Each (IsLaterPosition file) ps → AreFileChoices file (position_choices ps)
positions_of_file file [] h = tt
positions_of_file file (p ∷ ps) h = (h.0, positions_of_file file ps h.1)

later_within : (file : DrawFile) → Each (IsLaterPosition file) (later_positions file)
later_within file =
    each_from (IsLaterPosition file) (later_positions file)
    (λ p among. let h = in_range 2 (file.pots - 1) among.0 p among.1 in let low = h.0 in let high = h.1 in (omega arith, omega arith))

-- the candidates are of the file
pub candidates_within : (file : DrawFile) (ms : List Move) (p : Phase) → AreFileChoices file (candidates_in file ms p)
candidates_within file ms phase.Runner = undrawn_of file ms 2
candidates_within file ms (phase.Opponent r) =
    choices_of file (unpaired_winners file ms) (each_kept (λ t. t.0 < length file.teams) (λ w. not (is_paired w ms)) (winners file) (teams_within file 1))
candidates_within file ms (phase.Team pot) = undrawn_of file ms pot
candidates_within file ms (phase.Group t) = groups_of_file file (groups_for file ms t) (open_within file ms (pot_of file t))
candidates_within file ms (phase.Position t) = positions_of_file file (later_positions file) (later_within file)
candidates_within file ms phase.Complete = tt
