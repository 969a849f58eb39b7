-- The literals of a trail that were assumed, and the hints that its causes are.
use Rattle.std.specs.Prelude.{List, [], ◌∷◌, Option, Some, None, map}
use Rattle.count_core.specs.declared.lit.Lit.{Lit}
use Rattle.count_core.specs.declared.hint.Hint.{Hint}
use Rattle.count_core.specs.Assignments.{negation}
use Rattle.propagation.specs.Trails.{Entry}

-- the literal before the others, where it has no cause
abbrev pub or_assumed : Option Hint → Lit → List Lit → List Lit
or_assumed None l ls = l ∷ ls
or_assumed (Some h) l ls = ls

-- the literals that were assumed, in order
abbrev pub assumed_of : List Entry → List Lit
assumed_of [] = []
assumed_of (e ∷ es) = or_assumed e.cause e.lit (assumed_of es)

-- their negations, in order
abbrev pub negations_of : List Entry → List Lit
negations_of es = map negation (assumed_of es)

-- the cause before the others, where there is one
abbrev pub or_caused : Option Hint → List Hint → List Hint
or_caused None hs = hs
or_caused (Some h) hs = h ∷ hs

-- the causes of the entries, in order, and then the last hint
abbrev pub hints_of : List Entry → Hint → List Hint
hints_of [] last = last ∷ []
hints_of (e ∷ es) last = or_caused e.cause (hints_of es last)
