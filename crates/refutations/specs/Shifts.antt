-- Steps that are put behind others: their hints to steps get other numbers.
use Rattle.std.specs.Prelude.{◌≡◌, ℕ, ◌+◌, ◌++◌, List, length, map}
use Rattle.count_core.specs.declared.hint.Hint.{Hint}
use Rattle.count_core.specs.declared.hint.Hint.TheVariants.{Rule, Step as Earlier}
use Rattle.count_core.specs.declared.step.Step.{Step}

-- a hint to step n becomes one to step n + shift; a hint to a rule stays
abbrev pub shifted_hint : ℕ → Hint → Hint
shifted_hint shift (Rule n) = Rule n
shifted_hint shift (Earlier n) = Earlier (n + shift)

-- the same clause, by the shifted hints
abbrev pub shifted_step : ℕ → Step → Step
shifted_step shift s = record { clause = s.clause; hints = map (shifted_hint shift) s.hints }

-- The steps are the old ones, and behind them the others with shifted hints.
abbrev pub ArePutBehind : List Step → List Step → List Step → Type 0
ArePutBehind old new others = new ≡ old ++ map (shifted_step (length old)) others
