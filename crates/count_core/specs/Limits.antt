-- The limit of what is numbered.
use Rattle.std.specs.Prelude.{ℕ, ◌^◌}

-- A u32 numbers what there is less of than this: rules, steps, and the hints of a step.
abbrev pub number_limit : ℕ
number_limit = 2 ^ 32
