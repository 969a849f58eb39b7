-- Partial assignments, and what a count rule says under one. `conflicts`, `forces` and `forced` take
-- a rule's literals and bounds, so that a clause is a rule too: at least one of its literals.
use Rattle.std.specs.Prelude.{◌≡◌, ℕ, ◌-◌, ◌==◌, ◌&&◌, ◌||◌, Bool, true, false, not, nat_lt, if◌then◌else◌, List, [], ◌∷◌, length, count_by, Option, Some, None, slice_get, slice_set, option_and_then}
use Rattle.count_core.specs.declared.lit.Lit.{Lit}
use Rattle.count_core.specs.Assignments.{value_of, under_sign}

-- for each atom its truth value, where it is set
abbrev pub PartialAssignment : Type 0
PartialAssignment = List (Option Bool)

-- the value of the atom, or none where it is unset or out of range
abbrev pub value_at : PartialAssignment → ℕ → Option Bool
value_at p a = option_and_then (λ o. o) (slice_get p a)

-- the truth value is set, and to this one
abbrev pub has_sign : Bool → Option Bool → Bool
has_sign b None = false
has_sign true (Some c) = c
has_sign false (Some c) = not c

-- the literal is set true
abbrev pub is_true : PartialAssignment → Lit → Bool
is_true p l = has_sign l.positive (value_at p l.atom.0)

-- the literal is set false
abbrev pub is_false : PartialAssignment → Lit → Bool
is_false p l = has_sign (not l.positive) (value_at p l.atom.0)

-- the literal is set neither true nor false
abbrev pub is_unset : PartialAssignment → Lit → Bool
is_unset p l = not (is_true p l) && not (is_false p l)

-- the literal's atom is in range and unset, so that the literal can be made true or false
abbrev pub is_free : PartialAssignment → Lit → Bool
is_free p l = nat_lt l.atom.0 (length p) && is_unset p l

-- how many of the literals are true
abbrev pub trues : PartialAssignment → List Lit → ℕ
trues p ls = count_by (is_true p) ls

-- how many of the literals are false
abbrev pub falses : PartialAssignment → List Lit → ℕ
falses p ls = count_by (is_false p) ls

-- how many of the literals are unset
abbrev pub unsets : PartialAssignment → List Lit → ℕ
unsets p ls = count_by (is_unset p) ls

-- The rule conflicts: more literals are true than may be, or fewer can be than must.
unfoldable pub conflicts : PartialAssignment → List Lit → ℕ → ℕ → Bool
conflicts p ls lo hi = nat_lt hi (trues p ls) || nat_lt (length ls - falses p ls) lo

-- The rule forces: it has an unset literal and stands at one of its bounds. This is asked where the
-- rule does not conflict.
unfoldable pub forces : PartialAssignment → List Lit → ℕ → ℕ → Bool
forces p ls lo hi = nat_lt 0 (unsets p ls) && ((trues p ls == hi) || (length ls - falses p ls == lo))

-- the literal made true or false, if it is unset
abbrev pub assign : Bool → Lit → PartialAssignment → PartialAssignment
assign b l p = if is_unset p l then slice_set p l.atom.0 (Some (under_sign l.positive b)) else p

-- each unset literal made true or false; the order does not matter where the atoms are different
abbrev pub assign_all : Bool → List Lit → PartialAssignment → PartialAssignment
assign_all b [] p = p
assign_all b (l ∷ ls) p = assign_all b ls (assign b l p)

-- What is set after the rule forced: at `hi` its unset literals are false, else at `lo` they are true,
-- all of them at once.
unfoldable pub forced_assignment : PartialAssignment → List Lit → ℕ → ℕ → PartialAssignment
forced_assignment p ls lo hi = if trues p ls == hi then assign_all false ls p else (if length ls - falses p ls == lo then assign_all true ls p else p)

-- The rule is quiet: it neither conflicts nor forces.
abbrev pub IsQuiet : PartialAssignment → List Lit → ℕ → ℕ → Type 0
IsQuiet p ls lo hi = (conflicts p ls lo hi ≡ false) × (forces p ls lo hi ≡ false)

-- The rule does not conflict, and forces all its unset literals to be true, or all to be false.
pub record ForcesAll (p : PartialAssignment) (ls : List Lit) (lo hi : ℕ) (truth : Bool) : Type 0 where
  pub calm : conflicts p ls lo hi ≡ false
  pub active : forces p ls lo hi ≡ true
  pub makes : forced_assignment p ls lo hi ≡ assign_all truth ls p

-- The assignment extends the partial one: what is set has its value there.
abbrev pub Agrees : List Bool → PartialAssignment → Type 0
Agrees values p = (a : ℕ) (b : Bool) → value_at p a ≡ Some b → value_of values a ≡ b

-- The second assignment extends the first: what the first sets, the second sets alike.
abbrev pub IsExtendedBy : PartialAssignment → PartialAssignment → Type 0
IsExtendedBy p q = (a : ℕ) (b : Bool) → value_at p a ≡ Some b → value_at q a ≡ Some b
