-- The cases that break a rule, the numbers that tell them (this project's own), and the first case.
use Rattle.std.specs.Prelude.{◌≡◌, ◌≢◌, ℕ, ◌<◌, ◌≤◌, ◌==◌, ◌⊎◌, List, true, count_by}
use Rattle.team_files.specs.declared.team.Team.{Team}
use Rattle.team_files.specs.declared.team_id.TeamId.{TeamId}
use Rattle.rule_sets.specs.Files.{DrawFile}
use Rattle.rule_sets.specs.Forms.{HasForm}
use Rattle.draw_tables.specs.declared.table.Table.{Table}
use Rattle.draw_tables.specs.declared.table.Table.TheVariants.{Group, Pairs}
use Rattle.draw_tables.specs.declared.verdict.Verdict.{Verdict}
use Rattle.draw_tables.specs.declared.verdict.Verdict.TheVariants.{Broken}
use Rattle.draw_tables.specs.Lists.{IsAmong}
use Rattle.draw_tables.specs.Pots.{winners, IsTeam}
use Rattle.draw_tables.specs.Pairings.{GivesOpponent, have_same_letter, have_common_tag, is_forbidden}
use Rattle.draw_tables.specs.GroupVerdicts.{IsBrokenGroups}
use Rattle.draw_tables.specs.Tables.{IsTableOf, IsLegal}

-- the team at this place in the file
abbrev pub team_at : ℕ → TeamId
team_at place = record { 0 = place }

-- how often the table gives the team
abbrev pub times_given : TeamId → List TeamId → ℕ
times_given w table = count_by (λ t. t.0 == w.0) table

-- 1. The first number is the place of a winner that is not given exactly once, the second is how often it is given.
pub record IsNotGivenOnce (file : DrawFile) (table : List TeamId) (first second : ℕ) : Type 0 where
  pub winner : IsAmong (winners file) (team_at first)
  pub times : second ≡ times_given (team_at first) table
  pub not_once : second ≢ 1

-- 2. The numbers are the places of a runner-up and its winner that come from one first-round group.
pub record HaveOneLetter (file : DrawFile) (table : List TeamId) (first second : ℕ) : Type 0 where
  pub pair : GivesOpponent file table (team_at first) (team_at second)
  pub runner_up : Team
  pub winner : Team
  pub is_runner_up : IsTeam file (team_at first) runner_up
  pub is_winner : IsTeam file (team_at second) winner
  pub letter : have_same_letter runner_up winner ≡ true

-- 3. The numbers are the places of a runner-up and its winner that have a common tag.
pub record HaveOneTag (file : DrawFile) (table : List TeamId) (first second : ℕ) : Type 0 where
  pub pair : GivesOpponent file table (team_at first) (team_at second)
  pub runner_up : Team
  pub winner : Team
  pub is_runner_up : IsTeam file (team_at first) runner_up
  pub is_winner : IsTeam file (team_at second) winner
  pub tag : have_common_tag runner_up winner ≡ true

-- 4. The numbers are the places of a runner-up and its winner that are a forbidden pair.
pub record AreForbidden (file : DrawFile) (table : List TeamId) (first second : ℕ) : Type 0 where
  pub pair : GivesOpponent file table (team_at first) (team_at second)
  pub forbidden : is_forbidden file (team_at first) (team_at second) ≡ true

-- a case of a broken rule of pairing tables
abbrev pub IsBrokenPairing : DrawFile → List TeamId → ℕ → ℕ → ℕ → Type 0
IsBrokenPairing file table rule first second =
    ((rule ≡ 1) × IsNotGivenOnce file table first second) ⊎ (
    ((rule ≡ 2) × HaveOneLetter file table first second) ⊎ (
    ((rule ≡ 3) × HaveOneTag file table first second) ⊎
    ((rule ≡ 4) × AreForbidden file table first second)))

-- The table breaks the rule, and the two numbers tell the case.
abbrev pub IsBroken : DrawFile → Table → ℕ → ℕ → ℕ → Type 0
IsBroken file (Group groups) rule first second = IsBrokenGroups file groups.places rule first second
IsBroken file (Pairs pairs) rule first second = IsBrokenPairing file pairs.winners rule first second

-- one case is told before another, or is the same: by the rule, then by the first number, then by the second
abbrev pub IsNotAfter : ℕ → ℕ → ℕ → ℕ → ℕ → ℕ → Type 0
IsNotAfter rule first second r f s =
    (rule < r) ⊎ ((rule ≡ r) × ((first < f) ⊎ ((first ≡ f) × (second ≤ s))))

-- The first case: the least by the rule, the first and the second number.
pub record IsFirstBroken (file : DrawFile) (table : Table) (rule first second : ℕ) : Type 0 where
  pub broken : IsBroken file table rule first second
  pub least : (r f s : ℕ) → IsBroken file table r f s → IsNotAfter rule first second r f s

-- Where the verdict names a broken rule and two numbers, these are the first case.
abbrev pub NamesFirstBroken : DrawFile → Table → Verdict → Type 0
NamesFirstBroken file table verdict = (rule first second : ℕ)
    → verdict ≡ Broken rule first second → IsFirstBroken file table rule first second

-- ---- laws

-- A table of the file that breaks no rule is legal.
abbrev pub LegalWhereNoneBroken : Type 0
LegalWhereNoneBroken = (file : DrawFile) (table : Table) → HasForm file → IsTableOf file table
    → ((rule first second : ℕ) → ¬ IsBroken file table rule first second) → IsLegal file table

-- A legal table breaks no rule.
abbrev pub NoneBrokenWhereLegal : Type 0
NoneBrokenWhereLegal = (file : DrawFile) (table : Table) → IsLegal file table
    → (rule first second : ℕ) → ¬ IsBroken file table rule first second

-- A table has at most one first case.
abbrev pub OneFirstBroken : Type 0
OneFirstBroken = (file : DrawFile) (table : Table) (rule first second r f s : ℕ)
    → IsFirstBroken file table rule first second → IsFirstBroken file table r f s
    → (rule ≡ r) × (first ≡ f) × (second ≡ s)
