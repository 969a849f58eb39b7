-- What stands outside a call, its source and its sink, and what passed between them and the call.
use Rattle.std.specs.Prelude.{ℕ, ◌<◌, ◌≤◌, List, length, Option, IfSome}
use Rattle.std.specs.Io.KnownBytes.{Appends}
use Rattle.draw_ports.specs.Causes.{Rose, AppendsSome}

-- A source and a sink at one moment.
pub record Outside : Type 0 where
  -- the bytes that the source still holds, where it tells them
  pub left : Option (List ℕ)
  -- the bytes that the sink has taken, where it tells them
  pub wrote : Option (List ℕ)
  -- how often the source has failed
  pub read_faults : ℕ
  -- how often the sink has failed
  pub write_faults : ℕ

-- the source and the sink of which these are told
abbrev pub outside : Option (List ℕ) → Option (List ℕ) → ℕ → ℕ → Outside
outside left wrote read_faults write_faults =
    record { left = left; wrote = wrote; read_faults = read_faults; write_faults = write_faults }

-- Neither the source nor the sink failed between the two moments.
abbrev pub NothingFailed : Outside → Outside → Type 0
NothingFailed old new =
    (¬ Rose old.read_faults new.read_faults) × (¬ Rose old.write_faults new.write_faults)

-- ---- of what the source held, where it tells it

-- It held at most so many bytes.
abbrev pub FitsLimit : ℕ → Option (List ℕ) → Type 0
FitsLimit limit left = IfSome left (λ input. length input ≤ limit)

-- It held more bytes than that.
abbrev pub PassesLimit : ℕ → Option (List ℕ) → Type 0
PassesLimit limit left = IfSome left (λ input. limit < length input)

-- The sink gained a whole text that is so of what the source held.
abbrev pub Gains : (List ℕ → List ℕ → Type 0)
    → Option (List ℕ) → Option (List ℕ) → Option (List ℕ) → Type 0
Gains IsSo left old new =
    IfSome left (λ input. (text : List ℕ) × IsSo input text × Appends old new text)

-- The sink gained some first bytes of a text that is so of what the source held.
abbrev pub GainsSome : (List ℕ → List ℕ → Type 0)
    → Option (List ℕ) → Option (List ℕ) → Option (List ℕ) → Type 0
GainsSome IsSo left old new =
    IfSome left (λ input. (text : List ℕ) × IsSo input text × AppendsSome old new text)
