-- What a check answers.
use Rattle.std.specs.Prelude.{◌≡◌, ℕ, ◌+◌, List, [], ◌∷◌, ◌++◌, Option, Some, None, slice_get, take}
use Rattle.count_core.specs.declared.step.Step.{Step}
use Rattle.count_core.specs.Problems.{Problem}
use Rattle.count_core.specs.Steps.{failing_hint, AreAccepted}
use Rattle.cert_checker.specs.declared.checked.Checked.{Checked}
use Rattle.cert_checker.specs.declared.checked.Checked.TheVariants.{Accepted, Bad}

-- Step n is the first that is not accepted, and h is its failing hint: the steps before it are an
-- accepted list, and it is not accepted after them.
pub record IsFirstBad (problem : Problem) (steps : List Step) (n h : ℕ) : Type 0 where
  pub step : Step
  pub is_step : slice_get steps n ≡ Some step
  pub before : AreAccepted problem (take n steps)
  pub fails : failing_hint problem (take n steps) step ≡ Some h

-- the answer where step n has that failing hint or none, and `rest` is the answer for those after it
abbrev pub bad_or : ℕ → Option ℕ → Checked → Checked
bad_or n None rest = rest
bad_or n (Some h) rest = Bad n h

-- the answer for steps after earlier ones, which number from n
abbrev pub first_bad : Problem → List Step → List Step → ℕ → Checked
first_bad problem earlier [] n = Accepted
first_bad problem earlier (s ∷ steps) n = bad_or n (failing_hint problem earlier s) (first_bad problem (earlier ++ s ∷ []) steps (n + 1))
