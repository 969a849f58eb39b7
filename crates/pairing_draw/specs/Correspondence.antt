-- Legal tables of a pairing and assignments correspond.
use Rattle.std.specs.Prelude.{◌≡◌, ℕ, ◌↔◌, List, Bool, true, false, length, Some, slice_get}
use Rattle.team_files.specs.declared.kind.Kind.{Kind}
use Rattle.team_files.specs.declared.team_id.TeamId.{TeamId}
use Rattle.rule_sets.specs.Files.{DrawFile, IsWellFormed}
use Rattle.count_core.specs.Problems.{repeats, are_within, IsWellFormed as IsWellFormedProblem}
use Rattle.count_core.specs.Assignments.{Satisfies, SatisfiesQuestion, value_of}
use Rattle.draw_tables.specs.declared.moves.Move.{Move}
use Rattle.draw_tables.specs.declared.pair_table.PairTable.{PairTable}
use Rattle.draw_tables.specs.declared.table.Table.{Table}
use Rattle.draw_tables.specs.declared.table.Table.TheVariants.{Pairs}
use Rattle.draw_tables.specs.Pots.{runners_up, winners}
use Rattle.draw_tables.specs.Pairings.{GivesOpponent}
use Rattle.draw_tables.specs.Tables.{IsLegal, IsTableOf}
use Rattle.draw_tables.specs.States.{IsState}
use Rattle.draw_tables.specs.Offers.{Extends, IsCompletable}
use Rattle.pairing_draw.specs.Encoding.{atom_of, rules_of, values_of, lits_of_moves}

-- The assignment satisfies the rules of the file and makes the literals of the moves true.
pub record Meets (file : DrawFile) (ms : List Move) (values : List Bool) : Type 0 where
  pub rules : Satisfies values (rules_of file)
  pub moves : SatisfiesQuestion values (lits_of_moves file ms)

-- The values of a legal table that extends the moves meet the rules and the moves.
abbrev pub TablesSatisfy : Type 0
TablesSatisfy = (file : DrawFile) (ms : List Move) (table : Table)
    → file.kind ≡ Kind.Pairing → IsLegal file table → Extends file table ms
    → Meets file ms (values_of file table)

-- Where some assignment meets the rules and a state's moves, some legal table extends the moves.
abbrev pub ValuesComplete : Type 0
ValuesComplete = (file : DrawFile) (ms : List Move) (values : List Bool)
    → file.kind ≡ Kind.Pairing → IsState file ms → Meets file ms values → IsCompletable file ms

-- A state is completable exactly where some assignment meets the rules and its moves.
abbrev pub CompletableWhereSatisfied : Type 0
CompletableWhereSatisfied = (file : DrawFile) (ms : List Move)
    → file.kind ≡ Kind.Pairing → IsState file ms
    → (IsCompletable file ms ↔ ((values : List Bool) × Meets file ms values))

-- The rules of a file make a problem.
abbrev pub RulesAreFormed : Type 0
RulesAreFormed = (file : DrawFile)
    → file.kind ≡ Kind.Pairing → IsWellFormed file → IsWellFormedProblem (rules_of file)

-- The literals of a state's moves are over different atoms of the problem.
abbrev pub MovesAreQuestions : Type 0
MovesAreQuestions = (file : DrawFile) (ms : List Move) → file.kind ≡ Kind.Pairing → IsState file ms
    → (are_within (rules_of file).atoms (lits_of_moves file ms) ≡ true)
    × (repeats (lits_of_moves file ms) ≡ false)

-- the atom of a runner-up and a winner, at their places in their pots, is true
abbrev pub IsTruePair : DrawFile → List Bool → ℕ → ℕ → Type 0
IsTruePair file values r w = value_of values (atom_of (length (winners file)) r w) ≡ true

-- By the values of a table the atom of a runner-up and a winner is true exactly where the table gives
-- that runner-up that winner.
abbrev pub ValuesTellPairs : Type 0
ValuesTellPairs = (file : DrawFile) (pairs : PairTable) (r w : ℕ) (runner_up winner : TeamId)
    → IsTableOf file (Pairs pairs)
    → slice_get (runners_up file) r ≡ Some runner_up → slice_get (winners file) w ≡ Some winner
    → (IsTruePair file (values_of file (Pairs pairs)) r w
    ↔ GivesOpponent file pairs.winners runner_up winner)
