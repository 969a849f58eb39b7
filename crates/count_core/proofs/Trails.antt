-- An atom set and noted on the trail, and all atoms of the trail unset again.
use Rattle.std.proofs.Common.{◌≡◌, ℕ, zero, suc, ◌≤◌, ◌<◌, Bool, true, List, [], ◌∷◌, ◌++◌, length, refl, sym, ap, ◌∙◌, arith, Option, Some, None, length-append, take, drop}
use Rattle.std.specs.Prelude.{slice_set, replicate, nat_lt}
use Rattle.std.proofs.lemmas.List.{length-set, length-replicate}
use Rattle.std.proofs.lemmas.Bool.Decides.{Decides-ltb}
use Rattle.count_core.specs.declared.lit.Lit.{Lit}
use Rattle.count_core.specs.Assignments.{under_sign}
use Rattle.count_core.specs.PartialAssignments.{PartialAssignment, value_at, is_unset, is_free, assign}
use Rattle.count_core.specs.Trails.{unset_number, unassign_all, IsTrail}
use Rattle.count_core.proofs.Lists.{both_true, each_push, written_back}
use Rattle.count_core.proofs.Assigning.{unset_none, assign_unset}

-- ---- atoms unset

unassign_push : (atoms : List ℕ) (a : ℕ) (p : PartialAssignment) → unassign_all (atoms ++ a ∷ []) p ≡ slice_set (unassign_all atoms p) a None
unassign_push [] a p = refl
unassign_push (b ∷ atoms) a p = unassign_push atoms a (slice_set p b None)

-- two atoms unset, in either order
unset_either_order : (p : PartialAssignment) (a b : ℕ) → slice_set (slice_set p a None) b None ≡ slice_set (slice_set p b None) a None
unset_either_order [] a b = refl
unset_either_order (o ∷ p) zero zero = refl
unset_either_order (o ∷ p) zero (suc b) = refl
unset_either_order (o ∷ p) (suc a) zero = refl
unset_either_order (o ∷ p) (suc a) (suc b) = ap (λ q. o ∷ q) (unset_either_order p a b)

unassign_first : (atoms : List ℕ) (a : ℕ) (p : PartialAssignment) → slice_set (unassign_all atoms p) a None ≡ unassign_all atoms (slice_set p a None)
unassign_first [] a p = refl
unassign_first (b ∷ atoms) a p = unassign_first atoms a (slice_set p b None) ∙ ap (unassign_all atoms) (unset_either_order p b a)

-- an unset atom set and unset again
set_and_unset : (p : PartialAssignment) (a : ℕ) (x : Bool) → value_at p a ≡ None → slice_set (slice_set p a (Some x)) a None ≡ p
set_and_unset [] a x e = refl
set_and_unset (o ∷ p) zero x e = ap (λ y. y ∷ p) (sym e)
set_and_unset (o ∷ p) (suc a) x e = ap (λ q. o ∷ q) (set_and_unset p a x e)

-- ---- how many atoms are unset

-- setting an unset atom leaves one fewer
pub unset_number_set : (p : PartialAssignment) (a : ℕ) (x : Bool) → a < length p → value_at p a ≡ None → unset_number p ≡ suc (unset_number (slice_set p a (Some x)))
unset_number_set [] a x lt e = absurd (omega arith)
unset_number_set (None ∷ p) zero x lt e = refl
unset_number_set (Some b ∷ p) zero x lt e = cc
unset_number_set (None ∷ p) (suc a) x lt e = ap suc (unset_number_set p a x (omega arith) e)
unset_number_set (Some b ∷ p) (suc a) x lt e = unset_number_set p a x (omega arith) e

-- where nothing is set, all atoms are unset
pub unset_number_replicate : (n : ℕ) → unset_number (replicate n None) ≡ n
unset_number_replicate zero = refl
unset_number_replicate (suc n) = ap suc (unset_number_replicate n)

-- ---- trails

-- the trail of an assignment in which nothing is set
pub trail_clear : (n room : ℕ) → n ≤ room → IsTrail (replicate n None) [] room
trail_clear n room le =
    let unset : Option Bool = None in
    let len = length-replicate n unset in
    record {
      undone = rw len refl;
      within = tt;
      number = omega (arith, unset_number_replicate n, len);
      room = rw len le;
    }

module _ (p : PartialAssignment) (trail : List ℕ) (room : ℕ) (kept : IsTrail p trail room) (a : ℕ) (lt : a < length p) (free : value_at p a ≡ None) where
  -- there is room for an atom that is unset
  pub trail_room : length trail < room
  trail_room = omega (arith, unset_number_set p a true lt free, kept.number, kept.room)

  -- it is set and noted
  pub trail_set : (more : ℕ) (x : Bool) → room ≤ more → IsTrail (slice_set p a (Some x)) (trail ++ a ∷ []) more
  trail_set more x le = record {
    undone = rw (unassign_push, unassign_first, set_and_unset p a x free, length-set) kept.undone;
    within = rw length-set (each_push (λ k. k < length p) trail a kept.within lt);
    number = omega (arith, kept.number, unset_number_set p a x lt free, length-append trail (a ∷ []), length-set p a (Some x));
    room = rw length-set (omega (arith, kept.room));
  }

-- the trail after its atoms were unset, where the values are written back and the list is emptied
pub trail_undone : (p new : PartialAssignment) (trail : List ℕ) (n more : ℕ) → n ≡ length p → new ≡ replicate (length p) None → trail ≡ [] → length p ≤ more → IsTrail (take n (new ++ drop (length new) p)) trail more
trail_undone p new trail n more is cleared empty le =
    let unset : Option Bool = None in
    let len : length new ≡ length p = ap length cleared ∙ length-replicate (length p) unset in
    rw (written_back n new p (omega arith) (omega arith), cleared, empty) (trail_clear (length p) more le)

-- ---- a literal that is free

module _ (p : PartialAssignment) (l : Lit) (free : is_free p l ≡ true) where
  parts : (nat_lt l.atom.0 (length p) ≡ true) × (is_unset p l ≡ true)
  parts = both_true (nat_lt l.atom.0 (length p)) (is_unset p l) free

  -- its atom is in range
  pub free_within : l.atom.0 < length p
  free_within = (Decides-ltb l.atom.0 (length p)).0 parts.0

  -- and has no value
  pub free_unset : value_at p l.atom.0 ≡ None
  free_unset = unset_none l.positive (value_at p l.atom.0) parts.1

  -- its atom is set to make it true or false
  pub free_assign : (b : Bool) → slice_set p l.atom.0 (Some (under_sign l.positive b)) ≡ assign b l p
  free_assign b = sym (assign_unset b l p parts.1)
