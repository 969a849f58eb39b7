-- The literals of a trail that were assumed, and its causes.
use Rattle.std.proofs.Common.{◌≡◌, ◌≢◌, ℕ, zero, suc, ◌+◌, ◌<◌, ◌≤◌, Bool, true, false, not, cond, List, [], ◌∷◌, ◌++◌, length, take, drop, get_or, append_assoc, refl, sym, ap, ◌∙◌, subst, arith, Option, Some, None, slice_get, ◌⊎◌, inl, inr}
use Rattle.std.specs.Prelude.{slice_set, replicate, map, option_and_then, Contains, ◌==◌}
use Rattle.std.proofs.lemmas.List.{append-nil}
use Rattle.std.proofs.lemmas.Option.{slice_get_within}
use Rattle.count_core.specs.declared.lit.Lit.{Lit}
use Rattle.count_core.specs.declared.hint.Hint.{Hint}
use Rattle.count_core.specs.declared.count_rule.CountRule.{CountRule}
use Rattle.count_core.specs.Problems.{Problem}
use Rattle.count_core.specs.Assignments.{negation}
use Rattle.count_core.specs.PartialAssignments.{PartialAssignment, value_at, has_sign, is_true, is_unset, trues, forced_assignment}
use Rattle.std.specs.List.{AllByRecursion as Each}
use Rattle.count_core.proofs.Trails.{unset_number_set}
use Rattle.count_core.proofs.Assigning.{value_at_set, value_at_same, value_at_other, value_at_none, none_unset}
use Rattle.propagation.specs.declared.clause.Clause.{Clause}
use Rattle.propagation.specs.Trails.{Entry, lits_of, with_entry, with_true, extended, values_of, SetsAsMany, IsFree, IsCauseOf}
use Rattle.propagation.specs.Causes.{IsCaused, AreCaused}
use Rattle.propagation.specs.Engines.{Engine, values_in, AddsForced}
use Rattle.propagation.proofs.Trails.{length_values}
use Rattle.serial_search.specs.Assumptions.{or_assumed, assumed_of, negations_of, or_caused, hints_of}
use Rattle.serial_search.specs.Sides.{IsLonger}
use Rattle.serial_search.proofs.Negations.{first_member, later_member, member_cases, no_member}

-- ---- what is assumed

pub assumed_append : (xs ys : List Entry) → assumed_of (xs ++ ys) ≡ assumed_of xs ++ assumed_of ys
assumed_append [] ys = refl
assumed_append (x ∷ xs) ys = go x.cause (assumed_append xs ys)
  where
    go : (o : Option Hint) → assumed_of (xs ++ ys) ≡ assumed_of xs ++ assumed_of ys → or_assumed o x.lit (assumed_of (xs ++ ys)) ≡ or_assumed o x.lit (assumed_of xs) ++ assumed_of ys
    go None rest = ap (λ ls. x.lit ∷ ls) rest
    go (Some h) rest = rest

pub assumed_entry : (es : List Entry) (l : Lit) → assumed_of (with_entry es l None) ≡ assumed_of es ++ l ∷ []
assumed_entry es l = assumed_append es (record { lit = l; cause = None } ∷ [])

none_assumed : (es : List Entry) → Each (λ (e : Entry). e.cause ≢ None) es → assumed_of es ≡ []
none_assumed [] h = refl
none_assumed (e ∷ es) h = go e.cause h.0 (none_assumed es h.1)
  where
    go : (o : Option Hint) → o ≢ None → assumed_of es ≡ [] → or_assumed o e.lit (assumed_of es) ≡ []
    go None other rest = absurd (other refl)
    go (Some h) other rest = rest

pub forced_assumed : (old new : List Entry) → AddsForced old new → assumed_of new ≡ assumed_of old
forced_assumed old new (es, is, forced) =
    ap assumed_of is ∙ assumed_append old es ∙ ap (λ ls. assumed_of old ++ ls) (none_assumed es forced) ∙ append-nil (assumed_of old)

-- ---- longer trails

pub longer_by : (es : List Entry) (l : Lit) (o : Option Hint) → IsLonger es (with_entry es l o)
longer_by es l o = record { more = record { lit = l; cause = o } ∷ []; entries = refl }

pub longer_still : (a b c : List Entry) → IsLonger a b → IsLonger b c → IsLonger a c
longer_still a b c h g = record { more = h.more ++ g.more; entries = g.entries ∙ ap (λ es. es ++ g.more) h.entries ∙ append_assoc a h.more g.more }

take_front : {X : Type 0} (xs ys : List X) → take (length xs) (xs ++ ys) ≡ xs
take_front [] ys = refl
take_front (x ∷ xs) ys = ap (λ zs. x ∷ zs) (take_front xs ys)

-- back at the mark before a decision the trail is as it was
pub back_at_mark : (before after : List Entry) (l : Lit) (n : ℕ) → IsLonger (with_entry before l None) after → n ≡ length before → take n after ≡ before
back_at_mark before after l n longer mark =
    let e : after ≡ before ++ (record { lit = l; cause = None } ∷ longer.more) = longer.entries ∙ append_assoc before (record { lit = l; cause = None } ∷ []) longer.more in
    rw (e, mark) (take_front before (record { lit = l; cause = None } ∷ longer.more))

-- ---- the entry of a literal of the trail

-- with the cause that the engine tells of it
pub entry_at : (es : List Entry) (i : ℕ) (d : Lit) (o : Option Hint) → i < length es → IsCauseOf es (get_or (lits_of es) i d) o → drop i es ≡ record { lit = get_or (lits_of es) i d; cause = o } ∷ drop (suc i) es
entry_at [] i d o lt is = absurd (omega arith)
entry_at (e ∷ es) zero d o lt is = ap (λ (c : Option Hint). record { lit = e.lit; cause = c } ∷ es) (sym (is zero e refl refl))
entry_at (e ∷ es) (suc i) d o lt is = entry_at es i d o (omega arith) (λ k x at same. is (suc k) x at same)

pub assumed_more : (es : List Entry) (i : ℕ) (d : Lit) (o : Option Hint) (ls : List Lit) → i < length es → IsCauseOf es (get_or (lits_of es) i d) o → ls ++ negations_of (drop i es) ≡ negations_of es
    → (ls ++ map negation (or_assumed o (get_or (lits_of es) i d) [])) ++ negations_of (drop (suc i) es) ≡ negations_of es
assumed_more es i d o ls lt is h =
    append_assoc ls (map negation (or_assumed o (get_or (lits_of es) i d) [])) (negations_of (drop (suc i) es))
    ∙ ap (λ ms. ls ++ ms) (go o ∙ sym (ap negations_of (entry_at es i d o lt is))) ∙ h
  where
    l : Lit
    l = get_or (lits_of es) i d

    go : (o : Option Hint) → map negation (or_assumed o l []) ++ negations_of (drop (suc i) es) ≡ map negation (or_assumed o l (assumed_of (drop (suc i) es)))
    go None = refl
    go (Some h) = refl

pub caused_more : (es : List Entry) (i : ℕ) (d : Lit) (o : Option Hint) (last : Hint) (hs : List Hint) → i < length es → IsCauseOf es (get_or (lits_of es) i d) o → hs ++ hints_of (drop i es) last ≡ hints_of es last
    → (hs ++ or_caused o []) ++ hints_of (drop (suc i) es) last ≡ hints_of es last
caused_more es i d o last hs lt is h =
    append_assoc hs (or_caused o []) (hints_of (drop (suc i) es) last)
    ∙ ap (λ gs. hs ++ gs) (go o ∙ sym (ap (λ xs. hints_of xs last) (entry_at es i d o lt is))) ∙ h
  where
    go : (o : Option Hint) → or_caused o [] ++ hints_of (drop (suc i) es) last ≡ or_caused o (hints_of (drop (suc i) es) last)
    go None = refl
    go (Some h) = refl

pub length_lits : (es : List Entry) → length (lits_of es) ≡ length es
length_lits [] = refl
length_lits (e ∷ es) = ap suc (length_lits es)

-- ---- a true literal stands on the trail

-- The literal is that of the entry at a place.
abbrev StandsIn : List Entry → Lit → Type 0
StandsIn es l = (k : ℕ) × (e : Entry) × (slice_get es k ≡ Some e) × (e.lit ≡ l)

value_from : (es : List Entry) (p : PartialAssignment) (l : Lit) → value_at (extended p es) l.atom.0 ≡ Some l.positive → (value_at p l.atom.0 ≡ Some l.positive) ⊎ StandsIn es l
value_from [] p l e = inl e
value_from (x ∷ es) p l e = elim (value_from es (with_true p x.lit) l e) [
  inl here ↦ elim (value_at_set p x.lit.atom.0 x.lit.positive l.atom.0 l.positive here) [
    inl w ↦ inr (zero, x, refl, same w.0 w.1)
    | inr before ↦ inl before
    ]
  | inr s ↦ inr (suc s.0, s.1, s.2, s.3)
  ]
  where
    same : l.atom.0 ≡ x.lit.atom.0 → l.positive ≡ x.lit.positive → x.lit ≡ l
    same a b =
        ap (λ (n : ℕ). record { atom = record { 0 = n }; positive = x.lit.positive }) (sym a)
        ∙ ap (λ (s : Bool). record { atom = l.atom; positive = s }) (sym b)

true_sign : (s : Bool) (k : Option Bool) → has_sign s k ≡ true → k ≡ Some s
true_sign true None e = cc
true_sign false None e = cc
true_sign true (Some true) e = refl
true_sign true (Some false) e = cc
true_sign false (Some true) e = cc
true_sign false (Some false) e = refl

pub true_value : (p : PartialAssignment) (l : Lit) → is_true p l ≡ true → value_at p l.atom.0 ≡ Some l.positive
true_value p l e = true_sign l.positive (value_at p l.atom.0) e

own_sign : (s : Bool) → has_sign s (Some s) ≡ true
own_sign true = refl
own_sign false = refl

pub value_true : (p : PartialAssignment) (l : Lit) → value_at p l.atom.0 ≡ Some l.positive → is_true p l ≡ true
value_true p l e = rw e (own_sign l.positive)

stands : (atoms : ℕ) (es : List Entry) (l : Lit) → is_true (values_of atoms es) l ≡ true → StandsIn es l
stands atoms es l e = elim (value_from es (replicate atoms None) l (true_value (values_of atoms es) l e)) [
  inl none ↦ absurd (value_at_none atoms l.atom.0 l.positive none)
  | inr s ↦ s
  ]

assumed_there : (es : List Entry) (k : ℕ) (e : Entry) → slice_get es k ≡ Some e → e.cause ≡ None → Contains (assumed_of es) e.lit
assumed_there [] k e at none = cc
assumed_there (x ∷ es) zero e at none =
    let same : x ≡ e = cc in
    let P : Entry → Type 0 = λ (y : Entry). Contains (or_assumed y.cause y.lit (assumed_of es)) e.lit in
    subst P (sym same) (rw none (first_member (assumed_of es) e.lit))
assumed_there (x ∷ es) (suc k) e at none = go x.cause (assumed_there es k e at none)
  where
    go : (o : Option Hint) → Contains (assumed_of es) e.lit → Contains (or_assumed o x.lit (assumed_of es)) e.lit
    go None c = later_member (assumed_of es) e.lit x.lit c
    go (Some h) c = c

-- a true literal without a cause was assumed
pub true_assumed : (atoms : ℕ) (es : List Entry) (l : Lit) (o : Option Hint) → is_true (values_of atoms es) l ≡ true → IsCauseOf es l o → o ≡ None → Contains (assumed_of es) l
true_assumed atoms es l o e cause none =
    let s = stands atoms es l e in
    let is : o ≡ s.1.cause = cause s.0 s.1 s.2 s.3 in
    subst (Contains (assumed_of es)) s.3 (assumed_there es s.0 s.1 s.2 (sym is ∙ none))

-- ---- and an assumed literal is true

module _ (problem : Problem) (clauses : List Clause) where
  free_none : (p : PartialAssignment) (l : Lit) → IsFree p l → value_at p l.atom.0 ≡ None
  free_none p l free = ap (option_and_then (λ (o : Option Bool). o)) free

  -- what is set stays
  pub value_stays : (es : List Entry) (p : PartialAssignment) (a : ℕ) (b : Bool) → AreCaused problem clauses p es → value_at p a ≡ Some b → value_at (extended p es) a ≡ Some b
  value_stays [] p a b h v = v
  value_stays (e ∷ es) p a b h v = value_stays es (with_true p e.lit) a b h.2 (value_at_other p e.lit.atom.0 (Some e.lit.positive) a other ∙ v)
    where
      other : a ≢ e.lit.atom.0
      other same = let none = free_none p e.lit h.0 in let some : value_at p e.lit.atom.0 ≡ Some b = subst (λ x. value_at p x ≡ Some b) same v in cc

  pub assumed_value : (es : List Entry) (p : PartialAssignment) (l : Lit) → AreCaused problem clauses p es → Contains (assumed_of es) l → value_at (extended p es) l.atom.0 ≡ Some l.positive
  assumed_value [] p l h c = absurd (no_member l c)
  assumed_value (e ∷ es) p l h c = go e.cause c (assumed_value es (with_true p e.lit) l h.2)
    where
      here : value_at (extended (with_true p e.lit) es) e.lit.atom.0 ≡ Some e.lit.positive
      here = value_stays es (with_true p e.lit) e.lit.atom.0 e.lit.positive h.2 (value_at_same p e.lit.atom.0 e.lit.positive (slice_get_within p e.lit.atom.0 None h.0))

      go : (o : Option Hint) → Contains (or_assumed o e.lit (assumed_of es)) l → (Contains (assumed_of es) l → value_at (extended (with_true p e.lit) es) l.atom.0 ≡ Some l.positive) → value_at (extended (with_true p e.lit) es) l.atom.0 ≡ Some l.positive
      go None c rest = elim (member_cases (assumed_of es) l e.lit c) [
        inl same ↦ subst (λ (m : Lit). value_at (extended (with_true p e.lit) es) m.atom.0 ≡ Some m.positive) (sym same) here
        | inr later ↦ rest later
        ]
      go (Some x) c rest = rest c

-- ---- unset atoms

-- there are fewer entries than atoms, where an atom is unset
pub entries_below : (e : Engine) (l : Lit) → SetsAsMany (values_in e) e.entries → IsFree (values_in e) l → length e.entries < e.problem.atoms
entries_below e l many free =
    let within = slice_get_within (values_in e) l.atom.0 None free in
    omega (arith, many, within, length_values e.problem.atoms e.entries, unset_number_set (values_in e) l.atom.0 l.positive within (ap (option_and_then (λ (o : Option Bool). o)) free))

-- an unset atom can be assumed
pub free_unset : (p : PartialAssignment) (l : Lit) → IsFree p l → is_unset p l ≡ true
free_unset p l free = none_unset l.positive (value_at p l.atom.0) (ap (option_and_then (λ (o : Option Bool). o)) free)
