-- The negation of a clause assumed literal by literal: a literal that is set already is over an atom
-- that stands twice.
use Rattle.std.proofs.Common.{◌≡◌, ◌≢◌, ℕ, ◌<◌, ◌≤◌, Bool, true, false, not, List, [], ◌∷◌, length, get_or, drop, drop-cons, refl, ◌∙◌, ap, Option, Some, None}
use Rattle.std.specs.Prelude.{slice_set, ◌||◌, ◌&&◌, ◌==◌, nat_lt, replicate}
use Rattle.std.specs.List.{list_any}
use Rattle.std.proofs.lemmas.Bool.Decides.{Decides-eqb, Decides-ltb}
use Rattle.std.proofs.lemmas.List.{length-set, length-replicate, drop_all}
use Rattle.count_core.specs.declared.lit.Lit.{Lit}
use Rattle.count_core.specs.Assignments.{under_sign}
use Rattle.count_core.specs.Problems.{mentions, repeats, are_within}
use Rattle.count_core.specs.PartialAssignments.{PartialAssignment, value_at, has_sign, is_unset, assign}
use Rattle.count_core.proofs.Lists.{both_true, any_same, any_or, regroup}
use Rattle.count_core.proofs.Assigning.{value_at_same, value_at_other, value_at_none, none_unset, assign_unset}

-- some literal is set when its turn comes
abbrev pub meets_set : Bool → PartialAssignment → List Lit → Bool
meets_set b p [] = false
meets_set b p (l ∷ ls) = not (is_unset p l) || meets_set b (assign b l p) ls

some_set : (pos : Bool) (c : Bool) → (not (has_sign pos (Some c)) && not (has_sign (not pos) (Some c))) ≡ false
some_set true true = refl
some_set true false = refl
some_set false true = refl
some_set false false = refl

set_after : (p : PartialAssignment) (a : ℕ) (x : Bool) (m : Lit) → a < length p → not (is_unset (slice_set p a (Some x)) m) ≡ ((m.atom.0 == a) || not (is_unset p m))
set_after p a x m lt = go (m.atom.0 == a) refl
  where
    unset_by : Option Bool → Bool
    unset_by k = not (has_sign m.positive k) && not (has_sign (not m.positive) k)

    go : (t : Bool) → (m.atom.0 == a) ≡ t → not (is_unset (slice_set p a (Some x)) m) ≡ (t || not (is_unset p m))
    go true is =
        let same : m.atom.0 ≡ a = (Decides-eqb m.atom.0 a).0 is in
        let there : value_at (slice_set p a (Some x)) m.atom.0 ≡ Some x = rw same (value_at_same p a x lt) in
        rw (there, some_set m.positive x)
    go false is =
        let other : m.atom.0 ≢ a = λ q. (let yes : (m.atom.0 == a) ≡ true = (Decides-eqb m.atom.0 a).1 q in cc) in
        rw (value_at_other p a (Some x) m.atom.0 other)

-- it is met exactly where some literal is set at first, or an atom stands twice
pub meets_set_is : (b : Bool) (p : PartialAssignment) (ls : List Lit) → are_within (length p) ls ≡ true → meets_set b p ls ≡ (list_any (λ l. not (is_unset p l)) ls || repeats ls)
meets_set_is b p [] h = refl
meets_set_is b p (l ∷ ls) h = go (is_unset p l) refl
    (λ un.
    (let inside : are_within (length (assign b l p)) ls ≡ true = rw (assign_unset b l p un, length-set p l.atom.0 (Some (under_sign l.positive b))) parts.1 in
    meets_set_is b (assign b l p) ls inside))
  where
    parts : (nat_lt l.atom.0 (length p) ≡ true) × (are_within (length p) ls ≡ true)
    parts = both_true (nat_lt l.atom.0 (length p)) (are_within (length p) ls) h

    reads : is_unset p l ≡ true → list_any (λ (m : Lit). not (is_unset (assign b l p) m)) ls ≡ (mentions l.atom.0 ls || list_any (λ (m : Lit). not (is_unset p m)) ls)
    reads un =
        rw (assign_unset b l p un)
        (any_same (λ (m : Lit). not (is_unset (slice_set p l.atom.0 (Some (under_sign l.positive b))) m)) (λ (m : Lit). (m.atom.0 == l.atom.0) || not (is_unset p m)) (λ m. set_after p l.atom.0 (under_sign l.positive b) m ((Decides-ltb l.atom.0 (length p)).0 parts.0)) ls
        ∙ any_or (λ (m : Lit). m.atom.0 == l.atom.0) (λ (m : Lit). not (is_unset p m)) ls)

    go : (u : Bool) → is_unset p l ≡ u → (is_unset p l ≡ true → meets_set b (assign b l p) ls ≡ (list_any (λ (m : Lit). not (is_unset (assign b l p) m)) ls || repeats ls)) → (not u || meets_set b (assign b l p) ls) ≡ ((not u || list_any (λ (m : Lit). not (is_unset p m)) ls) || (mentions l.atom.0 ls || repeats ls))
    go true un rest = rest un ∙ ap (λ t. t || repeats ls) (reads un) ∙ regroup false (mentions l.atom.0 ls) (list_any (λ (m : Lit). not (is_unset p m)) ls) (repeats ls)
    go false un rest = refl

all_unset : (n : ℕ) (ls : List Lit) → list_any (λ (l : Lit). not (is_unset (replicate n None) l)) ls ≡ false
all_unset n [] = refl
all_unset n (l ∷ ls) = rw (here (value_at (replicate n None) l.atom.0) refl, all_unset n ls)
  where
    here : (k : Option Bool) → value_at (replicate n None) l.atom.0 ≡ k → not (is_unset (replicate n None) l) ≡ false
    here None is = rw (none_unset l.positive (value_at (replicate n None) l.atom.0) is)
    here (Some c) is = absurd (value_at_none n l.atom.0 c is)

-- from nothing set, a literal is set when its turn comes exactly where an atom stands twice
pub meets_set_repeats : (b : Bool) (atoms : ℕ) (ls : List Lit) → are_within atoms ls ≡ true → meets_set b (replicate atoms None) ls ≡ repeats ls
meets_set_repeats b atoms ls h = meets_set_is b (replicate atoms None) ls (rw length-replicate h) ∙ ap (λ t. t || repeats ls) (all_unset atoms ls)

-- the same of any assignment in which nothing is set
pub unset_repeats : (b : Bool) (p : PartialAssignment) (n : ℕ) (ls : List Lit) → p ≡ replicate n None → are_within n ls ≡ true → meets_set b p ls ≡ repeats ls
unset_repeats b p n ls e h = rw e (meets_set_repeats b n ls h)

-- ---- one turn of a loop over the literals

-- the literal at a place is set
pub met_now : (b : Bool) (p : PartialAssignment) (ls : List Lit) (i : ℕ) (d : Lit) → i < length ls → not (is_unset p (get_or ls i d)) ≡ true → meets_set b p (drop i ls) ≡ true
met_now b p ls i d lt e = rw (drop-cons ls i d, e)

-- none is left
pub met_never : (b : Bool) (p : PartialAssignment) (ls : List Lit) (i : ℕ) → length ls ≤ i → meets_set b p (drop i ls) ≡ false
met_never b p ls i past = rw (drop_all i ls past)
