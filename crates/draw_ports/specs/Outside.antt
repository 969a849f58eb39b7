-- What stands outside a call: its source and its sink.
use Rattle.std.specs.Prelude.{ℕ, List, Option}
use Rattle.draw_ports.specs.Causes.{Rose}

-- A source and a sink at one moment.
pub record Outside : Type 0 where
  -- the bytes that the source still holds, where it tells them
  pub left : Option (List ℕ)
  -- the bytes that the sink has taken, where it tells them
  pub wrote : Option (List ℕ)
  -- how often the source has failed
  pub read_faults : ℕ
  -- how often the sink has failed
  pub write_faults : ℕ

-- the source and the sink of which these are told
abbrev pub outside : Option (List ℕ) → Option (List ℕ) → ℕ → ℕ → Outside
outside left wrote read_faults write_faults =
    record { left = left; wrote = wrote; read_faults = read_faults; write_faults = write_faults }

-- Neither the source nor the sink failed between the two moments.
abbrev pub NothingFailed : Outside → Outside → Type 0
NothingFailed old new =
    (¬ Rose old.read_faults new.read_faults) × (¬ Rose old.write_faults new.write_faults)
