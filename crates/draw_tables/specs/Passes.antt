-- What a pass over a table finds first. These serve the proofs; the rules themselves stand in Pairings and Verdicts.
use Rattle.std.specs.Prelude.{◌≡◌, ◌↔◌, ℕ, ◌==◌, if◌then◌else◌, Bool, List, [], ◌∷◌, Option, Some, None}
use Rattle.team_files.specs.declared.team_id.TeamId.{TeamId}
use Rattle.rule_sets.specs.Files.{DrawFile}
use Rattle.draw_tables.specs.declared.table.Table.{Table}
use Rattle.draw_tables.specs.declared.verdict.Verdict.{Verdict}
use Rattle.draw_tables.specs.declared.verdict.Verdict.TheVariants.{Legal}
use Rattle.draw_tables.specs.Tables.{IsLegal}
use Rattle.draw_tables.specs.Verdicts.{times_given, NamesFirstBroken}

-- the first of the teams that the table does not give exactly once, with how often it gives it
abbrev pub first_not_once : List TeamId → List TeamId → Option (TeamId × ℕ)
first_not_once table [] = None
first_not_once table (w ∷ ws) =
    if times_given w table == 1 then first_not_once table ws else Some (w, times_given w table)

-- the first of the pairs that passes the test
abbrev pub first_pair : (TeamId → TeamId → Bool) → List TeamId → List TeamId → Option (TeamId × TeamId)
first_pair test [] ws = None
first_pair test (r ∷ rs) [] = None
first_pair test (r ∷ rs) (w ∷ ws) = if test r w then Some (r, w) else first_pair test rs ws

-- ---- the verdict

-- what the verdict on a table is to say
pub record IsJudgement (file : DrawFile) (table : Table) (verdict : Verdict) : Type 0 where
  pub legal : (verdict ≡ Legal) ↔ IsLegal file table
  pub broken : NamesFirstBroken file table verdict
