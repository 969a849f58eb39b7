-- Legal pairing tables (the round of 16 of UEFA's Champions League, 2021/22).
use Rattle.std.specs.Prelude.{◌≡◌, ℕ, ◌==◌, ◌&&◌, ◌||◌, not, nat_eq, bytes_eq, Bool, false, List, length, Option, Some, None, slice_get}
use Rattle.std.specs.List.{list_any}
use Rattle.std.specs.Option.{option_eq}
use Rattle.team_files.specs.declared.team.Team.{Team}
use Rattle.team_files.specs.declared.team_id.TeamId.{TeamId}
use Rattle.rule_sets.specs.declared.pair.Pair.{Pair}
use Rattle.rule_sets.specs.Files.{DrawFile}
use Rattle.draw_tables.specs.declared.pair_rule.PairRule.{PairRule}
use Rattle.draw_tables.specs.declared.pair_rule.PairRule.TheVariants.{Letters, Tags, Forbidden}
use Rattle.draw_tables.specs.Lists.{IsAmong}
use Rattle.draw_tables.specs.Pots.{winners, runners_up, IsTeam}

-- the teams come from one first-round group
abbrev pub have_same_letter : Team → Team → Bool
have_same_letter a b = option_eq nat_eq a.group_letter b.group_letter

-- the teams have a tag in common, as two clubs of one association have
abbrev pub have_common_tag : Team → Team → Bool
have_common_tag a b = list_any (λ s. list_any (λ t. bytes_eq s t) b.tags) a.tags

-- the two teams, in either order
abbrev pub is_pair_of : TeamId → TeamId → Pair → Bool
is_pair_of a b p =
    (p.first.0 == a.0 && p.second.0 == b.0) || (p.first.0 == b.0 && p.second.0 == a.0)

-- the file forbids the two teams to meet
abbrev pub is_forbidden : DrawFile → TeamId → TeamId → Bool
is_forbidden file a b = list_any (is_pair_of a b) file.pairs

-- A pairing table lists the opponents of the runners-up, in file order: it gives this runner-up this opponent.
abbrev pub GivesOpponent : DrawFile → List TeamId → TeamId → TeamId → Type 0
GivesOpponent file table runner_up winner =
    (i : ℕ) × (slice_get (runners_up file) i ≡ Some runner_up) × (slice_get table i ≡ Some winner)

-- A pairing table is legal where four rules hold.
pub record IsLegalPairing (file : DrawFile) (table : List TeamId) : Type 0 where
  -- each runner-up has one opponent
  pub size : length table ≡ length (runners_up file)
  -- 1. each winner is given exactly once, and nobody else is given
  pub nobody_else : (w : TeamId) → IsAmong table w → IsAmong (winners file) w
  pub given : (w : TeamId) → IsAmong (winners file) w → IsAmong table w
  pub once : (i j : ℕ) (w : TeamId)
      → slice_get table i ≡ Some w → slice_get table j ≡ Some w → i ≡ j
  -- 2. no pair comes from one first-round group
  pub letters : (r w : TeamId) (a b : Team)
      → GivesOpponent file table r w → IsTeam file r a → IsTeam file w b
      → have_same_letter a b ≡ false
  -- 3. no pair has a common tag
  pub tags : (r w : TeamId) (a b : Team)
      → GivesOpponent file table r w → IsTeam file r a → IsTeam file w b
      → have_common_tag a b ≡ false
  -- 4. no pair is forbidden
  pub forbidden : (r w : TeamId) → GivesOpponent file table r w → is_forbidden file r w ≡ false

-- ---- rules 2 to 4 for one pair

-- the test holds of the two teams
abbrev pub both : (Team → Team → Bool) → Option Team → Option Team → Bool
both test None b = false
both test (Some a) None = false
both test (Some a) (Some b) = test a b

-- a runner-up and a winner break the rule
abbrev pub breaks : DrawFile → PairRule → TeamId → TeamId → Bool
breaks file Letters r w =
    both have_same_letter (slice_get file.teams r.0) (slice_get file.teams w.0)
breaks file Tags r w =
    both have_common_tag (slice_get file.teams r.0) (slice_get file.teams w.0)
breaks file Forbidden r w = is_forbidden file r w

-- no rule forbids the two directly to meet: they break none of rules 2 to 4
abbrev pub may_meet : DrawFile → TeamId → TeamId → Bool
may_meet file r w =
    (not (breaks file Letters r w) && not (breaks file Tags r w)) && not (breaks file Forbidden r w)

-- A runner-up and a winner keep rules 2 to 4.
pub record KeepRules (file : DrawFile) (r w : TeamId) : Type 0 where
  pub letters : (a b : Team) → IsTeam file r a → IsTeam file w b → have_same_letter a b ≡ false
  pub tags : (a b : Team) → IsTeam file r a → IsTeam file w b → have_common_tag a b ≡ false
  pub forbidden : is_forbidden file r w ≡ false
