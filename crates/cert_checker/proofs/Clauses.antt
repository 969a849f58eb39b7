-- The negation of a clause assumed literal by literal.
use Rattle.std.proofs.Common.{◌≡◌, ℕ, ◌<◌, ◌≤◌, Bool, true, false, not, List, [], ◌∷◌, length, refl, ◌∙◌, ap, Option, None, get_or, drop, drop-cons}
use Rattle.std.specs.Prelude.{◌||◌, ◌&&◌, nat_lt, replicate}
use Rattle.std.proofs.lemmas.List.{length-replicate, drop_all}
use Rattle.count_core.specs.declared.lit.Lit.{Lit}
use Rattle.count_core.specs.Problems.{repeats, are_within, are_distinct_within}
use Rattle.count_core.specs.PartialAssignments.{PartialAssignment, is_unset, is_free, assign}
use Rattle.count_core.proofs.Assigning.{length-assign}
use Rattle.count_core.proofs.AssumedNegations.{meets_set, meets_set_repeats}

-- each literal is free when its turn comes
abbrev pub are_free : PartialAssignment → List Lit → Bool
are_free p [] = true
are_free p (l ∷ ls) = is_free p l && are_free (assign false l p) ls

shuffle : (i u w m : Bool) → ((i && u) && (w && not m)) ≡ ((i && w) && not (not u || m))
shuffle true true true m = refl
shuffle true true false m = refl
shuffle true false true m = refl
shuffle true false false m = refl
shuffle false u w m = refl

are_free_is : (p : PartialAssignment) (ls : List Lit) → are_free p ls ≡ (are_within (length p) ls && not (meets_set false p ls))
are_free_is p [] = refl
are_free_is p (l ∷ ls) =
    ap (λ t. (nat_lt l.atom.0 (length p) && is_unset p l) && t) (are_free_is (assign false l p) ls ∙ ap (λ n. are_within n ls && not (meets_set false (assign false l p) ls)) (length-assign false l p))
    ∙ shuffle (nat_lt l.atom.0 (length p)) (is_unset p l) (are_within (length p) ls) (meets_set false (assign false l p) ls)

both : (w m r : Bool) → (w ≡ true → m ≡ r) → (w && not m) ≡ (w && not r)
both true m r h = ap not (h refl)
both false m r h = refl

-- from nothing set, this is that the literals are over different atoms in range
free_clause : (n : ℕ) (ls : List Lit) → are_free (replicate n None) ls ≡ are_distinct_within n ls
free_clause n ls =
    let unset : Option Bool = None in
    are_free_is (replicate n None) ls
    ∙ ap (λ k. are_within k ls && not (meets_set false (replicate n None) ls)) (length-replicate n unset)
    ∙ both (are_within n ls) (meets_set false (replicate n None) ls) (repeats ls) (meets_set_repeats false n ls)

-- the same of any assignment in which nothing is set
pub unset_clause : (p : PartialAssignment) (ls : List Lit) → p ≡ replicate (length p) None → are_free p ls ≡ are_distinct_within (length p) ls
unset_clause p ls e = ap (λ q. are_free q ls) e ∙ free_clause (length p) ls

-- a literal that is not free when its turn comes
pub not_free : (p : PartialAssignment) (ls : List Lit) (i : ℕ) (d : Lit) → i < length ls → is_free p (get_or ls i d) ≡ false → are_free p (drop i ls) ≡ false
not_free p ls i d lt e = rw (drop-cons ls i d, e) refl

-- none is left
pub none_left : (p : PartialAssignment) (ls : List Lit) (i : ℕ) → length ls ≤ i → are_free p (drop i ls) ≡ true
none_left p ls i le = rw (drop_all i ls le) refl
