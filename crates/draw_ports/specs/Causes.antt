-- When a source or a sink may say that it failed, and what it did by then.
use Rattle.std.specs.Prelude.{◌≡◌, ℕ, ◌+◌, ◌-◌, ◌^◌, ◌≤◌, min, List, length, take, OnOk, OnErr, Result, Option}
use Rattle.std.specs.Io.KnownBytes.{Appends, Consumes}

-- the count has risen, or stands at its end
abbrev pub Rose : ℕ → ℕ → Type 0
Rose before now = min (before + 1) (2 ^ 64 - 1) ≤ now

-- a failure is told only where the count rose, and it stays where there was none
pub record HasCause {T E : Type 0} (before now : ℕ) (result : Result T E) : Type 0 where
  pub later : before ≤ now
  pub failed : OnErr result (Rose before now)
  pub kept : OnOk result (now ≡ before)

-- some first bytes went out
abbrev pub AppendsSome : Option (List ℕ) → Option (List ℕ) → List ℕ → Type 0
AppendsSome old new bytes = (n : ℕ) × (n ≤ length bytes) × Appends old new (take n bytes)

-- some first bytes were taken, where it tells what is left
abbrev pub TakesSome : Option (List ℕ) → Option (List ℕ) → Type 0
TakesSome old new = (xs : List ℕ) × Consumes old new xs
