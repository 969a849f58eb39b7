-- A source in memory as its callers see it.
use Rattle.std.specs.Prelude.{ℕ, List}

-- the bytes still to come, the most that one call gives, the numbers from 0 of the calls that fail,
-- and how many calls and faults there were
pub record Supply : Type 0 where
  pub left : List ℕ
  pub most : ℕ
  pub fails : List ℕ
  pub calls : ℕ
  pub faults : ℕ
