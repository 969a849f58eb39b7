-- A sink in memory as its callers see it.
use Rattle.std.specs.Prelude.{ℕ, List}

-- the bytes written so far, the most that it holds, the numbers from 0 of the calls that fail, and
-- how many calls and faults there were
pub record Store : Type 0 where
  pub wrote : List ℕ
  pub room : ℕ
  pub fails : List ℕ
  pub calls : ℕ
  pub faults : ℕ
