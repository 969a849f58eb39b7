use Rattle.draw_tables.proofs.HeldPositions.{stays_clean, held_is_impossible, one_holder}
use Rattle.draw_tables.proofs.laws.law_held_positions.Goals as goal

pub returns : goal.returns
returns c = record { clean = stays_clean; held = held_is_impossible; holder = one_holder }
