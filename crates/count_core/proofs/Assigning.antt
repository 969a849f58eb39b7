-- Partial assignments read and written: the value of an atom, and literals made true or false.
use Rattle.std.proofs.Common.{◌≡◌, ◌≢◌, ℕ, zero, suc, ◌<◌, Bool, true, false, not, cond, List, [], ◌∷◌, length, ◌⊎◌, inl, inr, refl, sym, ap, ◌∙◌, arith, Option, Some, None}
use Rattle.std.specs.Prelude.{slice_set, ◌&&◌, ◌||◌, ◌==◌, replicate}
use Rattle.std.proofs.lemmas.Bool.Decides.{Decides-eqb}
use Rattle.std.proofs.lemmas.List.{length-set}
use Rattle.count_core.specs.declared.lit.Lit.{Lit}
use Rattle.count_core.specs.Problems.{mentions}
use Rattle.count_core.specs.Assignments.{under_sign}
use Rattle.count_core.specs.PartialAssignments.{PartialAssignment, value_at, has_sign, is_true, is_false, is_unset, assign, assign_all}

-- ---- signs

-- a literal is unset exactly where its atom has no value
pub unset_none : (pos : Bool) (k : Option Bool) → (not (has_sign pos k) && not (has_sign (not pos) k)) ≡ true → k ≡ None
unset_none pos None e = refl
unset_none true (Some true) e = cc
unset_none true (Some false) e = cc
unset_none false (Some true) e = cc
unset_none false (Some false) e = cc

-- and the other way
pub none_unset : (pos : Bool) (k : Option Bool) → k ≡ None → (not (has_sign pos k) && not (has_sign (not pos) k)) ≡ true
none_unset true None e = refl
none_unset false None e = refl
none_unset pos (Some c) e = cc

sign_once : (pos : Bool) (k : Option Bool) → has_sign pos k ≡ true → has_sign (not pos) k ≡ false
sign_once true None e = refl
sign_once false None e = refl
sign_once true (Some true) e = refl
sign_once true (Some false) e = cc
sign_once false (Some true) e = cc
sign_once false (Some false) e = refl

-- no literal is true and false
pub true_not_false : (p : PartialAssignment) (l : Lit) → is_true p l ≡ true → is_false p l ≡ false
true_not_false p l e = sign_once l.positive (value_at p l.atom.0) e

-- an unset literal is not true; a false one is neither unset nor true
pub unset_not_true : (p : PartialAssignment) (l : Lit) → is_unset p l ≡ true → is_true p l ≡ false
unset_not_true p l unset = go (is_true p l) unset
  where
    go : (t : Bool) → (not t && not (is_false p l)) ≡ true → t ≡ false
    go true e = cc
    go false e = refl

pub false_not_unset : (p : PartialAssignment) (l : Lit) → is_false p l ≡ true → is_unset p l ≡ true → ⊥
false_not_unset p l e unset = go (is_true p l) (is_false p l) e unset
  where
    go : (t f : Bool) → f ≡ true → (not t && not f) ≡ true → ⊥
    go true f e u = cc
    go false true e u = cc
    go false false e u = cc

pub false_not_true : (p : PartialAssignment) (l : Lit) → is_false p l ≡ true → is_true p l ≡ false
false_not_true p l e = go (is_true p l) refl
  where
    go : (t : Bool) → is_true p l ≡ t → t ≡ false
    go true is = let no = true_not_false p l is in cc
    go false is = refl

-- a literal is false by the value of its atom
pub false_by_value : (p : PartialAssignment) (l : Lit) → value_at p l.atom.0 ≡ Some (under_sign l.positive false) → is_false p l ≡ true
false_by_value p l e = rw e (go l.positive)
  where
    go : (b : Bool) → has_sign (not b) (Some (under_sign b false)) ≡ true
    go true = refl
    go false = refl

-- ---- one atom set

-- a value after an atom was set is that one, at that atom, or was there before
pub value_at_set : (p : PartialAssignment) (a : ℕ) (x : Bool) (k : ℕ) (c : Bool) → value_at (slice_set p a (Some x)) k ≡ Some c → ((k ≡ a) × (c ≡ x)) ⊎ (value_at p k ≡ Some c)
value_at_set [] a x k c e = inr e
value_at_set (o ∷ p) zero x zero c e = inl (refl, cc)
value_at_set (o ∷ p) zero x (suc k) c e = inr e
value_at_set (o ∷ p) (suc a) x zero c e = inr e
value_at_set (o ∷ p) (suc a) x (suc k) c e = elim (value_at_set p a x k c e) [ inl w ↦ inl (ap suc w.0, w.1) | inr w ↦ inr w ]

-- the atom that was set has the value
pub value_at_same : (p : PartialAssignment) (a : ℕ) (x : Bool) → a < length p → value_at (slice_set p a (Some x)) a ≡ Some x
value_at_same [] a x h = absurd (omega arith)
value_at_same (o ∷ p) zero x h = refl
value_at_same (o ∷ p) (suc a) x h = value_at_same p a x (omega arith)

-- any other atom has the value that it had
pub value_at_other : (p : PartialAssignment) (a : ℕ) (o : Option Bool) (k : ℕ) → k ≢ a → value_at (slice_set p a o) k ≡ value_at p k
value_at_other [] a x k h = refl
value_at_other (o ∷ p) zero x zero h = absurd (h refl)
value_at_other (o ∷ p) zero x (suc k) h = refl
value_at_other (o ∷ p) (suc a) x zero h = refl
value_at_other (o ∷ p) (suc a) x (suc k) h = value_at_other p a x k (λ e. h (ap suc e))

none_before : (p : PartialAssignment) (a : ℕ) (x : Bool) (k : ℕ) → value_at (slice_set p a (Some x)) k ≡ None → value_at p k ≡ None
none_before [] a x k e = e
none_before (o ∷ p) zero x zero e = cc
none_before (o ∷ p) zero x (suc k) e = e
none_before (o ∷ p) (suc a) x zero e = e
none_before (o ∷ p) (suc a) x (suc k) e = none_before p a x k e

-- where nothing is set, no atom has a value
pub value_at_none : (n k : ℕ) (c : Bool) → value_at (replicate n None) k ≡ Some c → ⊥
value_at_none zero k c e = cc
value_at_none (suc n) zero c e = cc
value_at_none (suc n) (suc k) c e = value_at_none n k c e

-- where nothing is set, no atom has a value
pub nothing_set : (n k : ℕ) → value_at (replicate n None) k ≡ None
nothing_set n k = go (value_at (replicate n None) k) refl
  where
    go : (o : Option Bool) → value_at (replicate n None) k ≡ o → o ≡ None
    go None is = refl
    go (Some c) is = absurd (value_at_none n k c is)

-- ---- literals made true or false

-- as many atoms stay as there were
pub length-assign : (b : Bool) (l : Lit) (p : PartialAssignment) → length (assign b l p) ≡ length p
length-assign b l p = go (is_unset p l)
  where
    go : (u : Bool) → length (cond u (slice_set p l.atom.0 (Some (under_sign l.positive b))) p) ≡ length p
    go true = length-set p l.atom.0 (Some (under_sign l.positive b))
    go false = refl

-- also for some literals
pub length-assign_all : (b : Bool) (ls : List Lit) (p : PartialAssignment) → length (assign_all b ls p) ≡ length p
length-assign_all b [] p = refl
length-assign_all b (l ∷ ls) p = length-assign_all b ls (assign b l p) ∙ length-assign b l p

-- an unset literal, and after it was set
pub assign_unset : (b : Bool) (l : Lit) (p : PartialAssignment) → is_unset p l ≡ true → assign b l p ≡ slice_set p l.atom.0 (Some (under_sign l.positive b))
assign_unset b l p e = rw e

-- a literal that is not unset changes nothing
pub assign_set : (b : Bool) (l : Lit) (p : PartialAssignment) → is_unset p l ≡ false → assign b l p ≡ p
assign_set b l p e = rw e

-- other atoms keep their values
pub assign_other : (b : Bool) (l : Lit) (p : PartialAssignment) (a : ℕ) → a ≢ l.atom.0 → value_at (assign b l p) a ≡ value_at p a
assign_other b l p a ne = go (is_unset p l)
  where
    go : (u : Bool) → value_at (cond u (slice_set p l.atom.0 (Some (under_sign l.positive b))) p) a ≡ value_at p a
    go true = value_at_other p l.atom.0 (Some (under_sign l.positive b)) a ne
    go false = refl

-- also for some literals
pub assign_all_other : (b : Bool) (ls : List Lit) (p : PartialAssignment) (a : ℕ) → mentions a ls ≡ false → value_at (assign_all b ls p) a ≡ value_at p a
assign_all_other b [] p a e = refl
assign_all_other b (l ∷ ls) p a e = go (l.atom.0 == a) refl e (assign_all_other b ls (assign b l p) a)
  where
    go : (t : Bool) → (l.atom.0 == a) ≡ t → (t || mentions a ls) ≡ false → (mentions a ls ≡ false → value_at (assign_all b ls (assign b l p)) a ≡ value_at (assign b l p) a) → value_at (assign_all b ls (assign b l p)) a ≡ value_at p a
    go true is e rest = cc
    go false is e rest = rest e ∙ assign_other b l p a (λ q. (let yes : (l.atom.0 == a) ≡ true = (Decides-eqb l.atom.0 a).1 (sym q) in cc))

-- and what is set stays as it is
pub assign_keeps : (b : Bool) (l : Lit) (p : PartialAssignment) (a : ℕ) (c : Bool) → value_at p a ≡ Some c → value_at (assign b l p) a ≡ Some c
assign_keeps b l p a c e = go (is_unset p l) refl (l.atom.0 == a) refl
  where
    go : (u : Bool) → is_unset p l ≡ u → (t : Bool) → (l.atom.0 == a) ≡ t → value_at (cond u (slice_set p l.atom.0 (Some (under_sign l.positive b))) p) a ≡ Some c
    go true un true is =
        let same : l.atom.0 ≡ a = (Decides-eqb l.atom.0 a).0 is in
        let unset = unset_none l.positive (value_at p l.atom.0) un in
        let here : value_at p l.atom.0 ≡ Some c = rw same e in
        cc
    go true un false is = value_at_other p l.atom.0 (Some (under_sign l.positive b)) a (λ q. (let yes : (l.atom.0 == a) ≡ true = (Decides-eqb l.atom.0 a).1 (sym q) in cc)) ∙ e
    go false un t is = e

-- also for some literals
pub assign_all_keeps : (b : Bool) (ls : List Lit) (p : PartialAssignment) (a : ℕ) (c : Bool) → value_at p a ≡ Some c → value_at (assign_all b ls p) a ≡ Some c
assign_all_keeps b [] p a c e = e
assign_all_keeps b (l ∷ ls) p a c e = assign_all_keeps b ls (assign b l p) a c (assign_keeps b l p a c e)

-- a literal that is unset after another was made true or false was unset before
pub unset_before : (b : Bool) (l m : Lit) (p : PartialAssignment) → is_unset (assign b l p) m ≡ true → is_unset p m ≡ true
unset_before b l m p e = go (is_unset p l) e
  where
    go : (u : Bool) → is_unset (cond u (slice_set p l.atom.0 (Some (under_sign l.positive b))) p) m ≡ true → is_unset p m ≡ true
    go true e = none_unset m.positive (value_at p m.atom.0) (none_before p l.atom.0 (under_sign l.positive b) m.atom.0 (unset_none m.positive _ e))
    go false e = e
