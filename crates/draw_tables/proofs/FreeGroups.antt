-- The groups that a team may take: those of the file without a placed team of its pot.
use Rattle.std.proofs.Common.{◌≡◌, ℕ, ◌-◌, ◌<◌, ◌≤◌, false, not, Some, arith}
use Rattle.std.proofs.lemmas.Bool.{not-true, not_from_false}
use Rattle.rule_sets.specs.Files.{DrawFile}
use Rattle.draw_tables.specs.declared.moves.Move.{Move}
use Rattle.std.specs.Prelude.{List}
use Rattle.draw_tables.specs.Lists.{IsAmong}
use Rattle.draw_tables.specs.Pots.{groups_of, later_positions}
use Rattle.draw_tables.specs.GroupPhases.{has_placed, open_groups}
use Rattle.draw_tables.proofs.Lists.{in_range, range_has}
use Rattle.draw_tables.proofs.PotMembers.{kept_among, among_kept}

module _ (file : DrawFile) (ms : List Move) (pot group : ℕ) where
  -- a group of the file without a placed team of the pot
  pub is_open_group : group < file.groups → has_placed file ms pot group ≡ false → IsAmong (open_groups file ms (Some pot)) group
  is_open_group lt free = kept_among (λ g. not (has_placed file ms pot g)) (groups_of file) group (range_has 0 file.groups group (omega arith) (omega arith)) (not_from_false (has_placed file ms pot group) free)

  pub open_group_is : IsAmong (open_groups file ms (Some pot)) group → (group < file.groups) × (has_placed file ms pot group ≡ false)
  open_group_is among =
      let kept = among_kept (λ g. not (has_placed file ms pot g)) (groups_of file) group among in
      let within = in_range 0 file.groups kept.1.0 group kept.1.1 in
      let high = within.1 in
      (omega arith, not-true (has_placed file ms pot group) kept.0)

-- a position that is drawn by a ball
pub is_later : (file : DrawFile) (position : ℕ) → 2 ≤ position → position ≤ file.pots → IsAmong (later_positions file) position
is_later file position low high = range_has 2 (file.pots - 1) position low (omega arith)

pub later_is : (file : DrawFile) (position : ℕ) → IsAmong (later_positions file) position → (2 ≤ position) × (position ≤ file.pots)
later_is file position among = let within = in_range 2 (file.pots - 1) among.0 position among.1 in let low = within.0 in let high = within.1 in (low, omega arith)
