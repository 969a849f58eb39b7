-- The clause that joins two sides, as this crate's code makes it.
use Rattle.std.specs.Prelude.{Bool, ◌==◌, ◌&&◌, not, List, ◌++◌, []}
use Rattle.std.specs.List.{list_any, filter}
use mathlib.Core.Bool.{beq}
use Rattle.count_core.specs.declared.lit.Lit.{Lit}
use Rattle.count_core.specs.Assignments.{negation}

-- the literals are one
abbrev pub is_same : Lit → Lit → Bool
is_same x y = (x.atom.0 == y.atom.0) && beq x.positive y.positive

-- the literal is neither the one left out nor one of those known
abbrev pub is_other : Lit → List Lit → Lit → Bool
is_other out known x = not (is_same x out) && not (list_any (λ y. is_same y x) known)

-- the first side without the split's negation, and what the second has besides it and the split
abbrev pub joined_clause : Lit → List Lit → List Lit → List Lit
joined_clause split first second = filter (is_other (negation split) []) first ++ filter (is_other split first) second
