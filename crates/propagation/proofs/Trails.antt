-- Trails that gain an entry or lose one.
use Rattle.std.proofs.Common.{◌≡◌, ◌≢◌, ℕ, zero, suc, ◌+◌, ◌<◌, ◌≤◌, Bool, true, false, List, [], ◌∷◌, ◌++◌, length, length-append, take, map, Option, Some, None, refl, sym, ap, ◌∙◌, arith, slice_get, subst}
use Rattle.std.specs.Prelude.{slice_set, slice_index_or, replicate, option_and_then}
use Rattle.std.specs.List.{AllByRecursion as Each}
use Rattle.std.proofs.lemmas.List.{length-set, length-replicate, get_or-set_same, get_or-set_other, get_or_default, take-append-le, take_all, take-take}
use Rattle.std.proofs.lemmas.Option.{slice_get_within}
use Rattle.count_core.specs.declared.lit.Lit.{Lit}
use Rattle.count_core.specs.declared.hint.Hint.{Hint}
use Rattle.count_core.specs.PartialAssignments.{PartialAssignment, value_at, has_sign, is_true}
use Rattle.count_core.specs.Trails.{unset_number}
use Rattle.count_core.proofs.Trails.{unset_number_set, unset_number_replicate}
use Rattle.propagation.specs.Trails.{SetsAsMany, Entry, lits_of, with_entry, with_true, extended, values_of, IsFree, AreFree, entry_with, IsTrail, IsCauseOf}
use Rattle.propagation.proofs.Basics.{read_same, read_other}

-- a write that is undone
undone : (p : PartialAssignment) (a : ℕ) (x : Bool) → slice_get p a ≡ Some None → slice_set (slice_set p a (Some x)) a None ≡ p
undone [] a x e = refl
undone (o ∷ p) zero x e = ap (λ y. y ∷ p) cc
undone (o ∷ p) (suc a) x e = ap (λ q. o ∷ q) (undone p a x e)

-- ---- how many atoms are unset

unset_less : (p : PartialAssignment) (l : Lit) → IsFree p l → unset_number p ≡ suc (unset_number (with_true p l))
unset_less p l free = unset_number_set p l.atom.0 l.positive (slice_get_within p l.atom.0 None free) (rw free refl)

unset_left : (p : PartialAssignment) (es : List Entry) → AreFree p es → unset_number p ≡ unset_number (extended p es) + length es
unset_left p [] h = omega arith
unset_left p (e ∷ es) h = omega (arith, unset_less p e.lit h.0, unset_left (with_true p e.lit) es h.1)

-- there are no more entries than atoms, and fewer where an atom is unset
pub entries_few : (atoms : ℕ) (es : List Entry) → AreFree (replicate atoms None) es → length es ≤ atoms
entries_few atoms es free = omega (arith, unset_left (replicate atoms None) es free, unset_number_replicate atoms)

entries_fewer : (atoms : ℕ) (es : List Entry) (l : Lit) → AreFree (replicate atoms None) es → IsFree (values_of atoms es) l → length es < atoms
entries_fewer atoms es l free here = omega (arith, unset_left (replicate atoms None) es free, unset_number_replicate atoms, unset_less (values_of atoms es) l here)

-- ---- entries in a row

pub extended_append : (p : PartialAssignment) (xs ys : List Entry) → extended p (xs ++ ys) ≡ extended (extended p xs) ys
extended_append p [] ys = refl
extended_append p (x ∷ xs) ys = extended_append (with_true p x.lit) xs ys

free_push : (p : PartialAssignment) (es : List Entry) (e : Entry) → AreFree p es → IsFree (extended p es) e.lit → AreFree p (es ++ e ∷ [])
free_push p [] e h here = (here, tt)
free_push p (x ∷ es) e h here = (h.0, free_push (with_true p x.lit) es e h.1 here)

free_pop : (p : PartialAssignment) (es : List Entry) (e : Entry) → AreFree p (es ++ e ∷ []) → AreFree p es × IsFree (extended p es) e.lit
free_pop p [] e h = (tt, h.0)
free_pop p (x ∷ es) e h = (let rest = free_pop (with_true p x.lit) es e h.1 in ((h.0, rest.0), rest.1))

length_extended : (p : PartialAssignment) (es : List Entry) → length (extended p es) ≡ length p
length_extended p [] = refl
length_extended p (e ∷ es) = length_extended (with_true p e.lit) es ∙ length-set p e.lit.atom.0 (Some e.lit.positive)

pub length_values : (atoms : ℕ) (es : List Entry) → length (values_of atoms es) ≡ atoms
length_values atoms es = (let nothing : Option Bool = None in length_extended (replicate atoms None) es ∙ length-replicate atoms nothing)

-- what is set stays
stays_set : (es : List Entry) (p : PartialAssignment) (a : ℕ) (b : Bool) → AreFree p es → slice_get p a ≡ Some (Some b) → slice_get (extended p es) a ≡ Some (Some b)
stays_set [] p a b free h = h
stays_set (e ∷ es) p a b free h =
    let here = free.0 in
    let other : a ≢ e.lit.atom.0 = λ q. (let set : slice_get p e.lit.atom.0 ≡ Some (Some b) = rw q at h in cc) in
    stays_set es (with_true p e.lit) a b free.1 (read_other p e.lit.atom.0 (Some e.lit.positive) a other ∙ h)

first_set : (e : Entry) (es : List Entry) (p : PartialAssignment) → AreFree p (e ∷ es) → slice_get (extended p (e ∷ es)) e.lit.atom.0 ≡ Some (Some e.lit.positive)
first_set e es p free = (let unset : Option Bool = None in stays_set es (with_true p e.lit) e.lit.atom.0 e.lit.positive free.1 (read_same p e.lit.atom.0 (Some e.lit.positive) unset free.0))

-- an atom that is unset after them is none of theirs
not_among : (es : List Entry) (p : PartialAssignment) (a : ℕ) → AreFree p es → slice_get (extended p es) a ≡ Some None → Each (λ (e : Entry). e.lit.atom.0 ≢ a) es
not_among [] p a free h = tt
not_among (e ∷ es) p a free h =
    (λ q. (let set : slice_get (extended p (e ∷ es)) a ≡ Some (Some e.lit.positive) = rw (← q) (first_set e es p free) in cc), not_among es (with_true p e.lit) a free.1 h)

-- ---- causes by atom

pub lits_with : (causes : List (Option Hint)) (ls : List Lit) → lits_of (map (entry_with causes) ls) ≡ ls
lits_with causes [] = refl
lits_with causes (l ∷ ls) = ap (λ xs. l ∷ xs) (lits_with causes ls)

pub number_with : (causes : List (Option Hint)) (ls : List Lit) → length (map (entry_with causes) ls) ≡ length ls
number_with causes [] = refl
number_with causes (l ∷ ls) = ap suc (number_with causes ls)

pub with_append : (causes : List (Option Hint)) (ls : List Lit) (l : Lit) → map (entry_with causes) (ls ++ l ∷ []) ≡ map (entry_with causes) ls ++ entry_with causes l ∷ []
with_append causes [] l = refl
with_append causes (m ∷ ls) l = ap (λ xs. entry_with causes m ∷ xs) (with_append causes ls l)

with_other : (causes : List (Option Hint)) (a : ℕ) (c : Option Hint) (ls : List Lit) → Each (λ (e : Entry). e.lit.atom.0 ≢ a) (map (entry_with causes) ls) → map (entry_with (slice_set causes a c)) ls ≡ map (entry_with causes) ls
with_other causes a c [] h = refl
with_other causes a c (l ∷ ls) h =
    let here : entry_with (slice_set causes a c) l ≡ entry_with causes l = rw (get_or-set_other causes a l.atom.0 c None h.0) in
    let rest = with_other causes a c ls h.1 in
    cc

-- ---- the parts of a trail

module _ (values : PartialAssignment) (causes : List (Option Hint)) (ls : List Lit) (atoms : ℕ) (trail : IsTrail values causes ls atoms) where
  entries : List Entry
  entries = map (entry_with causes) ls

  pub trail_few : length (map (entry_with causes) ls) ≤ atoms
  trail_few = entries_few atoms (map (entry_with causes) ls) trail.free

  pub trail_number : length ls ≤ atoms
  trail_number = omega (arith, trail_few, number_with causes ls)

  pub trail_values : length values ≡ atoms
  trail_values = ap length trail.values_are ∙ length_values atoms (map (entry_with causes) ls)

  pub trail_sets : SetsAsMany (values_of atoms (map (entry_with causes) ls)) (map (entry_with causes) ls)
  trail_sets = omega (arith, unset_left (replicate atoms None) (map (entry_with causes) ls) trail.free, unset_number_replicate atoms, length_values atoms (map (entry_with causes) ls))

  pub trail_known : (a : ℕ) (b : Option Bool) → a < atoms → slice_index_or values a b ≡ value_at (values_of atoms (map (entry_with causes) ls)) a
  trail_known a b lt = rw (← trail.values_are) (go values a (omega (arith, trail_values)))
    where
      go : (p : PartialAssignment) (a : ℕ) → a < length p → slice_index_or p a b ≡ value_at p a
      go [] a lt = absurd (omega arith)
      go (o ∷ p) zero lt = refl
      go (o ∷ p) (suc a) lt = go p a (omega arith)

  module _ (l : Lit) (c : Option Hint) (free : IsFree (values_of atoms (map (entry_with causes) ls)) l) where
    pub set_room : length (map (entry_with causes) ls) < atoms
    set_room = entries_fewer atoms (map (entry_with causes) ls) l trail.free free

    pub set_within : l.atom.0 < atoms
    set_within = omega (arith, slice_get_within (values_of atoms (map (entry_with causes) ls)) l.atom.0 None free, length_values atoms (map (entry_with causes) ls))

    pub set_entries : map (entry_with (slice_set causes l.atom.0 c)) (ls ++ l ∷ []) ≡ with_entry (map (entry_with causes) ls) l c
    set_entries =
        let inside : l.atom.0 < length causes = omega (arith, set_within, trail.causes_number) in
        let others = with_other causes l.atom.0 c ls (not_among (map (entry_with causes) ls) (replicate atoms None) l.atom.0 trail.free free) in
        with_append (slice_set causes l.atom.0 c) ls l ∙ rw (others, get_or-set_same causes l.atom.0 c None inside)

    pub set_trail : IsTrail (with_true values l) (slice_set causes l.atom.0 c) (ls ++ l ∷ []) atoms
    set_trail = record {
      values_are = rw (set_entries, extended_append (replicate atoms None) (map (entry_with causes) ls) (record { lit = l; cause = c } ∷ [])) (ap (λ p. with_true p l) trail.values_are);
      causes_number = length-set causes l.atom.0 c ∙ trail.causes_number;
      small = trail.small;
      free = rw set_entries (free_push (replicate atoms None) (map (entry_with causes) ls) (record { lit = l; cause = c }) trail.free free);
    }

module _ (values : PartialAssignment) (causes : List (Option Hint)) (ls : List Lit) (l : Lit) (atoms : ℕ) (trail : IsTrail values causes (ls ++ l ∷ []) atoms) where
  before : AreFree (replicate atoms None) (map (entry_with causes) ls) × IsFree (values_of atoms (map (entry_with causes) ls)) l
  before = free_pop (replicate atoms None) (map (entry_with causes) ls) (entry_with causes l) (rw (← with_append causes ls l) trail.free)

  values_were : values ≡ with_true (values_of atoms (map (entry_with causes) ls)) l
  values_were = trail.values_are ∙ rw with_append (extended_append (replicate atoms None) (map (entry_with causes) ls) (entry_with causes l ∷ []))

  pub pop_within : l.atom.0 < length values
  pop_within = rw (values_were, length-set) (slice_get_within (values_of atoms (map (entry_with causes) ls)) l.atom.0 None before.1)

  pub pop_trail : IsTrail (slice_set values l.atom.0 None) causes ls atoms
  pop_trail = record {
    values_are = rw values_were (undone (values_of atoms (map (entry_with causes) ls)) l.atom.0 l.positive before.1);
    causes_number = trail.causes_number;
    small = trail.small;
    free = before.0;
  }

-- ---- the cause of a literal

entry_set : (es : List Entry) (p : PartialAssignment) (k : ℕ) (e : Entry) → AreFree p es → slice_get es k ≡ Some e → slice_get (extended p es) e.lit.atom.0 ≡ Some (Some e.lit.positive)
entry_set [] p k e free at = cc
entry_set (x ∷ es) p zero e free at =
    let same : x ≡ e = cc in
    let P : Entry → Type 0 = λ (y : Entry). slice_get (extended p (x ∷ es)) y.lit.atom.0 ≡ Some (Some y.lit.positive) in
    subst P same (first_set x es p free)
entry_set (x ∷ es) p (suc k) e free at = entry_set es (with_true p x.lit) k e free.1 at

own_sign : (s : Bool) → has_sign s (Some s) ≡ true
own_sign true = refl
own_sign false = refl

-- each entry's literal is true
pub entry_true : (atoms : ℕ) (es : List Entry) (k : ℕ) (e : Entry) → AreFree (replicate atoms None) es → slice_get es k ≡ Some e → is_true (values_of atoms es) e.lit ≡ true
entry_true atoms es k e free at = rw (entry_set es (replicate atoms None) k e free at) (own_sign e.lit.positive)

true_within : (p : PartialAssignment) (l : Lit) → is_true p l ≡ true → l.atom.0 < length p
true_within p l e = go (slice_get p l.atom.0) refl l.positive e
  where
    go : (o : Option (Option Bool)) → slice_get p l.atom.0 ≡ o → (s : Bool) → has_sign s (option_and_then (λ (x : Option Bool). x) o) ≡ true → l.atom.0 < length p
    go None at true e = cc
    go None at false e = cc
    go (Some x) at s e = slice_get_within p l.atom.0 x at

cause_with : (causes : List (Option Hint)) (ls : List Lit) (k : ℕ) (e : Entry) → slice_get (map (entry_with causes) ls) k ≡ Some e → e.cause ≡ slice_index_or causes e.lit.atom.0 None
cause_with causes [] k e at = cc
cause_with causes (l ∷ ls) zero e at =
    let same : entry_with causes l ≡ e = cc in
    let P : Entry → Type 0 = λ (y : Entry). y.cause ≡ slice_index_or causes y.lit.atom.0 None in
    subst P same refl
cause_with causes (l ∷ ls) (suc k) e at = cause_with causes ls k e at

module _ (values : PartialAssignment) (causes : List (Option Hint)) (ls : List Lit) (atoms : ℕ) (trail : IsTrail values causes ls atoms) (l : Lit) where
  pub cause_within : is_true values l ≡ true → l.atom.0 < length causes
  cause_within e = omega (arith, true_within values l e, trail_values values causes ls atoms trail, trail.causes_number)

  pub cause_set : (c : Option Hint) → is_true values l ≡ true → c ≡ slice_index_or causes l.atom.0 c → IsCauseOf (map (entry_with causes) ls) l c
  cause_set c set is k e at same = is ∙ sym (cause_with causes ls k e at ∙ rw same (get_or_default causes l.atom.0 None c (cause_within set)))

  pub cause_unset : (c : Option Hint) → is_true values l ≡ false → IsCauseOf (map (entry_with causes) ls) l c
  cause_unset c unset k e at same =
      let here : is_true (values_of atoms (map (entry_with causes) ls)) e.lit ≡ true = entry_true atoms (map (entry_with causes) ls) k e trail.free at in
      let there : is_true values l ≡ true = rw (trail.values_are, ← same) here in
      let no = unset in
      cc

-- ---- the front of a trail

pub front_pop : {X : Type 0} (xs before all : List X) (e : X) → before ≡ xs ++ e ∷ [] → before ≡ take (length before) all → xs ≡ take (length xs) all
front_pop xs before all e is front =
    let le : length xs ≤ length xs = omega arith in
    let longer : length before ≡ length xs + 1 = omega (arith, ap length is, length-append xs (e ∷ [])) in
    let less : length xs ≤ length before = omega arith in
    sym (take-append-le (length xs) xs (e ∷ []) le ∙ take_all (length xs) xs le) ∙ ap (take (length xs)) (sym is ∙ front) ∙ take-take (length xs) (length before) all less
