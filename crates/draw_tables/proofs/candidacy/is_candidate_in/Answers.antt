use Rattle.std.proofs.lemmas.Bool.{false≢true}
use Rattle.draw_tables.specs.declared.moves.Choice.{Choice}
use Rattle.draw_tables.specs.Pots.{later_positions}
use Rattle.draw_tables.specs.GroupPhases.{groups_for, undrawn_of_pot}
use Rattle.draw_tables.specs.PairingPhases.{unpaired_winners}
use Rattle.draw_tables.proofs.CandidateMoves.{no_image}
use Rattle.draw_tables.proofs.candidacy.is_candidate_in.Goals as goal

pub returns-in_default : goal.returns-in_default
returns-in_default c = (
  λ e. absurd (false≢true e),
  λ h. absurd (no_image (λ t. Choice.Team t) (undrawn_of_pot c.args.file.now c.args.moves.now 2) c.args.choice c.in_default.not-Team-1 (rw c.in_default.is-0 at h)),
)

pub returns-in_default-2 : goal.returns-in_default-2
returns-in_default-2 c = (
  λ e. absurd (false≢true e),
  λ h. absurd (no_image (λ t. Choice.Team t) (unpaired_winners c.args.file.now c.args.moves.now) c.args.choice c.in_default.not-Team-1 (rw c.in_default.is-0 at h)),
)

pub returns-in_default-3 : goal.returns-in_default-3
returns-in_default-3 c = (
  λ e. absurd (false≢true e),
  λ h. absurd (no_image (λ t. Choice.Team t) (undrawn_of_pot c.args.file.now c.args.moves.now c.in_default.field-0-0) c.args.choice c.in_default.not-Team-1 (rw c.in_default.is-0 at h)),
)

pub returns-in_default-4 : goal.returns-in_default-4
returns-in_default-4 c = (
  λ e. absurd (false≢true e),
  λ h. absurd (no_image (λ g. Choice.Group g) (groups_for c.args.file.now c.args.moves.now c.in_default.field-0-0) c.args.choice c.in_default.not-Group-1 (rw c.in_default.is-0 at h)),
)

pub returns-in_default-5 : goal.returns-in_default-5
returns-in_default-5 c = (
  λ e. absurd (false≢true e),
  λ h. absurd (no_image (λ p. Choice.Position p) (later_positions c.args.file.now) c.args.choice c.in_default.not-Position-1 (rw c.in_default.is-0 at h)),
)
