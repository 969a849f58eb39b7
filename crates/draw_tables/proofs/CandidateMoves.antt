-- The candidates of a phase are choices that it takes.
use Rattle.std.proofs.Common.{◌≡◌, List, map, Some, ap, sym}
use Rattle.rule_sets.specs.Files.{DrawFile}
use Rattle.draw_tables.specs.declared.moves.Move.{Move}
use Rattle.draw_tables.specs.declared.moves.Move.TheVariants.{Drawn, Placed, Positioned, Paired}
use Rattle.draw_tables.specs.declared.moves.Choice.{Choice}
use Rattle.draw_tables.specs.declared.moves.Choice.TheVariants as choice
use Rattle.draw_tables.specs.declared.moves.Phase.{Phase}
use Rattle.draw_tables.specs.declared.moves.Phase.TheVariants as phase
use Rattle.draw_tables.specs.Lists.{IsAmong}
use Rattle.draw_tables.specs.Pots.{later_positions}
use Rattle.draw_tables.specs.GroupPhases.{undrawn_of_pot, groups_for}
use Rattle.draw_tables.specs.PairingPhases.{unpaired_winners}
use Rattle.draw_tables.specs.States.{candidates_in, move_in}
use Rattle.draw_tables.proofs.Lists.{map_among, none_among}

-- a choice that is no image is not among them
pub no_image : {A : Type 0} (f : A → Choice) (xs : List A) (c : Choice) → ((x : A) → ¬ c ≡ f x) → ¬ IsAmong (map f xs) c
no_image f xs c none among = let h = map_among f xs c among in none h.0 (sym h.2)

-- a candidate of a phase has a move in it
pub candidate_has_move : (file : DrawFile) (ms : List Move) (p : Phase) (c : Choice) → IsAmong (candidates_in file ms p) c → (m : Move) × (move_in p c ≡ Some m)
candidate_has_move file ms phase.Runner c h = let x = map_among (λ t. choice.Team t) (undrawn_of_pot file ms 2) c h in (Drawn x.0, ap (move_in phase.Runner) (sym x.2))
candidate_has_move file ms (phase.Opponent r) c h = let x = map_among (λ t. choice.Team t) (unpaired_winners file ms) c h in (Paired r x.0, ap (move_in (phase.Opponent r)) (sym x.2))
candidate_has_move file ms (phase.Team pot) c h = let x = map_among (λ t. choice.Team t) (undrawn_of_pot file ms pot) c h in (Drawn x.0, ap (move_in (phase.Team pot)) (sym x.2))
candidate_has_move file ms (phase.Group t) c h = let x = map_among (λ g. choice.Group g) (groups_for file ms t) c h in (Placed t x.0, ap (move_in (phase.Group t)) (sym x.2))
candidate_has_move file ms (phase.Position t) c h = let x = map_among (λ p. choice.Position p) (later_positions file) c h in (Positioned t x.0, ap (move_in (phase.Position t)) (sym x.2))
candidate_has_move file ms phase.Complete c h = absurd (none_among c h)
