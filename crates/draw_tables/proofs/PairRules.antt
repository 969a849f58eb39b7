-- Rules 2 to 4 for one pair: what the code tests, and what the rules say.
use Rattle.std.proofs.Common.{◌≡◌, Bool, true, false, not, refl, sym, ◌∙◌}
use Rattle.std.specs.Prelude.{◌&&◌}
use Rattle.team_files.specs.declared.team.Team.{Team}
use Rattle.team_files.specs.declared.team_id.TeamId.{TeamId}
use Rattle.rule_sets.specs.Files.{DrawFile}
use Rattle.draw_tables.specs.Pots.{IsTeam}
use Rattle.draw_tables.specs.Pairings.{may_meet, have_same_letter, have_common_tag, is_forbidden}

all_false : (a b c : Bool) → ((not a && not b) && not c) ≡ true → (a ≡ false) × (b ≡ false) × (c ≡ false)
all_false true b c h = cc
all_false false true c h = cc
all_false false false true h = cc
all_false false false false h = (refl, refl, refl)

all_not : (a b c : Bool) → a ≡ false → b ≡ false → c ≡ false → ((not a && not b) && not c) ≡ true
all_not a b c e f g = rw (e, f, g) refl

module _ (file : DrawFile) (r w : TeamId) (a b : Team) (is_r : IsTeam file r a) (is_w : IsTeam file w b) where
  meets : may_meet file r w ≡ ((not (have_same_letter a b) && not (have_common_tag a b)) && not (is_forbidden file r w))
  meets = rw (is_r, is_w) refl

  -- two teams that may meet keep each rule
  pub rules_kept : may_meet file r w ≡ true → (have_same_letter a b ≡ false) × (have_common_tag a b ≡ false) × (is_forbidden file r w ≡ false)
  rules_kept h = all_false (have_same_letter a b) (have_common_tag a b) (is_forbidden file r w) (sym meets ∙ h)

  -- two teams that keep each rule may meet
  pub may_meet_by : have_same_letter a b ≡ false → have_common_tag a b ≡ false → is_forbidden file r w ≡ false → may_meet file r w ≡ true
  may_meet_by letters tags pairs = meets ∙ all_not (have_same_letter a b) (have_common_tag a b) (is_forbidden file r w) letters tags pairs
