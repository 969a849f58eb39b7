-- A trail: the literals that are set, in order, each with its cause; and the partial assignment that
-- it gives.
use Rattle.std.specs.Prelude.{◌≡◌, ℕ, ◌+◌, ◌<◌, ◌^◌, List, [], ◌∷◌, ◌++◌, length, map, Option, Some, None, slice_set, slice_get, slice_index_or, replicate}
use Rattle.count_core.specs.declared.lit.Lit.{Lit}
use Rattle.count_core.specs.declared.hint.Hint.{Hint}
use Rattle.count_core.specs.PartialAssignments.{PartialAssignment}
use Rattle.count_core.specs.Trails.{unset_number}

-- A literal that is set true, with what forced it, or none where it was assumed.
pub record Entry : Type 0 where
  pub lit : Lit
  pub cause : Option Hint

-- A trail over so many atoms, with room for so many entries.
pub record Trail : Type 0 where
  pub atoms : ℕ
  pub entries : List Entry
  pub room : ℕ

-- the entries' literals, in order
abbrev pub lits_of : List Entry → List Lit
lits_of es = map (λ (e : Entry). e.lit) es

-- the entries with one more at the end
abbrev pub with_entry : List Entry → Lit → Option Hint → List Entry
with_entry es l c = es ++ record { lit = l; cause = c } ∷ []

-- The cause is that of each entry of the literal.
abbrev pub IsCauseOf : List Entry → Lit → Option Hint → Type 0
IsCauseOf es l c = (k : ℕ) (e : Entry) → slice_get es k ≡ Some e → e.lit ≡ l → c ≡ e.cause

-- the assignment with the literal made true
abbrev pub with_true : PartialAssignment → Lit → PartialAssignment
with_true p l = slice_set p l.atom.0 (Some l.positive)

-- the assignment with the entries' literals made true, in order
abbrev pub extended : PartialAssignment → List Entry → PartialAssignment
extended p [] = p
extended p (e ∷ es) = extended (with_true p e.lit) es

-- the assignment that entries over so many atoms give
abbrev pub values_of : ℕ → List Entry → PartialAssignment
values_of atoms es = extended (replicate atoms None) es

-- As many atoms are set as there are entries, and the others are unset.
abbrev pub SetsAsMany : PartialAssignment → List Entry → Type 0
SetsAsMany p es = length es + unset_number p ≡ length p

-- what is set on a trail
abbrev pub values_in : Trail → PartialAssignment
values_in t = values_of t.atoms t.entries

-- The literal's atom is in range and unset.
abbrev pub IsFree : PartialAssignment → Lit → Type 0
IsFree p l = slice_get p l.atom.0 ≡ Some None

-- Each literal is free when its turn comes.
abbrev pub AreFree : PartialAssignment → List Entry → Type 0
AreFree p [] = Unit {0}
AreFree p (e ∷ es) = IsFree p e.lit × AreFree (with_true p e.lit) es

-- the entry of a set literal, where the causes are kept by atom
abbrev pub entry_with : List (Option Hint) → Lit → Entry
entry_with causes l = record { lit = l; cause = slice_index_or causes l.atom.0 None }

-- The parts of a trail agree: the values are those of its entries, each of which was free in its turn.
pub record IsTrail (values : PartialAssignment) (causes : List (Option Hint)) (lits : List Lit) (atoms : ℕ) : Type 0 where
  pub values_are : values ≡ values_of atoms (map (entry_with causes) lits)
  pub causes_number : length causes ≡ atoms
  pub small : atoms < 2 ^ 32
  pub free : AreFree (replicate atoms None) (map (entry_with causes) lits)
