-- A constraint that forces, literal by literal.
use Rattle.std.proofs.Common.{◌≡◌, ◌≢◌, ℕ, zero, suc, ◌+◌, ◌<◌, Bool, true, false, not, cond, List, [], ◌∷◌, ◌++◌, length, drop, get_or, Option, Some, None, refl, sym, ap, ◌∙◌, arith, slice_get}
use Rattle.std.specs.Prelude.{slice_set, ◌==◌, ◌&&◌, nat_lt, replicate}
use Rattle.std.proofs.lemmas.Bool.Decides.{Decides-ltb}
use Rattle.std.proofs.lemmas.List.{append_assoc, append-nil, drop_more}
use Rattle.count_core.specs.declared.lit.Lit.{Lit}
use Rattle.count_core.specs.declared.hint.Hint.{Hint}
use Rattle.count_core.specs.declared.count_rule.CountRule.{CountRule}
use Rattle.count_core.specs.Problems.{mentions, repeats, are_within}
use Rattle.count_core.specs.Assignments.{under_sign}
use Rattle.count_core.specs.PartialAssignments.{PartialAssignment, value_at, has_sign, is_true, is_unset, trues, falses, unsets, forces, assign, assign_all}
use Rattle.count_core.proofs.Lists.{both_true, count_cons}
use Rattle.count_core.proofs.Assigning.{none_unset, value_at_same, assign_unset, assign_set, assign_other, assign_all_keeps, length-assign}
use Rattle.count_core.proofs.RuleEffects.{numbers_add}
use Rattle.count_core.proofs.Marks.{within_at}
use Rattle.propagation.specs.Trails.{with_entry, with_true, extended, IsFree}
use Rattle.propagation.specs.Constraints.{IsNamed, IsQuietConstraint}
use Rattle.propagation.specs.Causes.{IsCaused}
use Rattle.propagation.specs.Firings.{directed, entries_setting, entries_forced}
use Rattle.propagation.specs.Statuses.{IsAtBound}
use Rattle.propagation.specs.Stores.{Store, IsShaped, IsNumbered, OnlyTrailDiffers, Grows, values_in, constraint_in, hint_in, completed}
use Rattle.propagation.proofs.Basics.{bit, neither, apart_is}
use Rattle.propagation.proofs.Trails.{extended_append, length_values}
use Rattle.propagation.proofs.Counting.{count_some, trues_after, falses_after, number_once}
use Rattle.propagation.proofs.Statuses.{idle_set, forces_some, bound_calm, bound_forces, bound_upper, bound_forced}

-- ---- a literal in its direction

directed_atom : (b : Bool) (l : Lit) → (directed b l).atom.0 ≡ l.atom.0
directed_atom true l = refl
directed_atom false l = refl

directed_sign : (b : Bool) (l : Lit) → (directed b l).positive ≡ under_sign l.positive b
directed_sign b l = go b l.positive
  where
    go : (b s : Bool) → (directed b (record { atom = l.atom; positive = s })).positive ≡ under_sign s b
    go true true = refl
    go true false = refl
    go false true = refl
    go false false = refl

unset_lit : (p : PartialAssignment) (l : Lit) → value_at p l.atom.0 ≡ None → is_unset p l ≡ true
unset_lit p l e = none_unset l.positive (value_at p l.atom.0) e

assign_directed : (b : Bool) (l : Lit) (p : PartialAssignment) → is_unset p l ≡ true → assign b l p ≡ with_true p (directed b l)
assign_directed b l p e = assign_unset b l p e ∙ rw (directed_atom b l, directed_sign b l) refl

directed_true : (b : Bool) (p : PartialAssignment) (l : Lit) → value_at p l.atom.0 ≡ Some (under_sign l.positive b) → is_true p (directed b l) ≡ true
directed_true b p l e = rw (directed_atom b l, directed_sign b l, e) (go (under_sign l.positive b))
  where
    go : (s : Bool) → has_sign s (Some s) ≡ true
    go true = refl
    go false = refl

other_atom : (a : ℕ) (ls : List Lit) (k : ℕ) (d : Lit) → mentions a ls ≡ false → k < length ls → (get_or ls k d).atom.0 ≢ a
other_atom a [] k d e lt = absurd (omega arith)
other_atom a (l ∷ ls) zero d e lt = apart_is l.atom.0 a (neither (l.atom.0 == a) (mentions a ls) e).0
other_atom a (l ∷ ls) (suc k) d e lt = other_atom a ls k d (neither (l.atom.0 == a) (mentions a ls) e).1 (omega arith)

-- an unset literal of the list is set when all are
assigned_at : (b : Bool) (ls : List Lit) (p : PartialAssignment) (k : ℕ) (d : Lit) → repeats ls ≡ false → k < length ls → (get_or ls k d).atom.0 < length p → value_at p (get_or ls k d).atom.0 ≡ None
    → value_at (assign_all b ls p) (get_or ls k d).atom.0 ≡ Some (under_sign (get_or ls k d).positive b)
assigned_at b [] p k d distinct lt inside none = absurd (omega arith)
assigned_at b (l ∷ ls) p zero d distinct lt inside none =
    let set : assign b l p ≡ slice_set p l.atom.0 (Some (under_sign l.positive b)) = assign_unset b l p (unset_lit p l none) in
    assign_all_keeps b ls (assign b l p) l.atom.0 (under_sign l.positive b) (rw set (value_at_same p l.atom.0 (under_sign l.positive b) inside))
assigned_at b (l ∷ ls) p (suc k) d distinct lt inside none =
    let parts = neither (mentions l.atom.0 ls) (repeats ls) distinct in
    let low : k < length ls = omega arith in
    assigned_at b ls (assign b l p) k d parts.1 low (rw length-assign inside) (assign_other b l p (get_or ls k d).atom.0 (other_atom l.atom.0 ls k d parts.0 low) ∙ none)

-- after that none is unset
set_before : (b : Bool) (ls : List Lit) (p : PartialAssignment) (l : Lit) (c : Bool) → value_at p l.atom.0 ≡ Some c → is_unset (assign_all b ls p) l ≡ false
set_before b ls p l c e = rw (assign_all_keeps b ls p l.atom.0 c e) (go l.positive c)
  where
    go : (s c : Bool) → (not (has_sign s (Some c)) && not (has_sign (not s) (Some c))) ≡ false
    go true true = refl
    go true false = refl
    go false true = refl
    go false false = refl

none_left : (b : Bool) (ls : List Lit) (p : PartialAssignment) → are_within (length p) ls ≡ true → unsets (assign_all b ls p) ls ≡ 0
none_left b [] p h = refl
none_left b (l ∷ ls) p h =
    let parts = both_true (nat_lt l.atom.0 (length p)) (are_within (length p) ls) h in
    let rest : unsets (assign_all b ls (assign b l p)) ls ≡ 0 = none_left b ls (assign b l p) (rw length-assign parts.1) in
    let value = now ((Decides-ltb l.atom.0 (length p)).0 parts.0) (value_at p l.atom.0) refl in
    let here = ap bit (set_before b ls (assign b l p) l value.0 value.1) in
    omega (arith, count_cons (is_unset (assign_all b ls (assign b l p))) l ls, rest, here)
  where
    set : (s c : Bool) → (not (has_sign s (Some c)) && not (has_sign (not s) (Some c))) ≡ false
    set true true = refl
    set true false = refl
    set false true = refl
    set false false = refl

    now : l.atom.0 < length p → (o : Option Bool) → value_at p l.atom.0 ≡ o → (c : Bool) × (value_at (assign b l p) l.atom.0 ≡ Some c)
    now lt None e = (under_sign l.positive b, rw (assign_unset b l p (unset_lit p l e)) (value_at_same p l.atom.0 (under_sign l.positive b) lt))
    now lt (Some c) e = (let unset : is_unset p l ≡ false = rw e (set l.positive c) in (c, rw (assign_set b l p unset) e))

-- ---- the entries of a constraint that forces

setting_next : (h : Hint) (b : Bool) (p : PartialAssignment) (ls : List Lit) (k : ℕ) (d : Lit) → k < length ls → value_at p (get_or ls k d).atom.0 ≡ None
    → entries_setting h b p (drop k ls) ≡ record { lit = directed b (get_or ls k d); cause = Some h } ∷ entries_setting h b (with_true p (directed b (get_or ls k d))) (drop (k + 1) ls)
setting_next h b p ls k d lt none = rw (drop_more ls k d lt, unset_lit p (get_or ls k d) none) refl

-- they make of the values what all literals set at once make
pub extended_setting : (h : Hint) (b : Bool) (ls : List Lit) (p : PartialAssignment) → extended p (entries_setting h b p ls) ≡ assign_all b ls p
extended_setting h b [] p = refl
extended_setting h b (l ∷ ls) p = go (is_unset p l) refl (extended_setting h b ls)
  where
    go : (u : Bool) → is_unset p l ≡ u → ((q : PartialAssignment) → extended q (entries_setting h b q ls) ≡ assign_all b ls q)
        → extended p (cond u (record { lit = directed b l; cause = Some h } ∷ entries_setting h b (with_true p (directed b l)) ls) (entries_setting h b p ls)) ≡ assign_all b ls (assign b l p)
    go true e rest = rest (with_true p (directed b l)) ∙ ap (assign_all b ls) (sym (assign_directed b l p e))
    go false e rest = rest p ∙ ap (assign_all b ls) (sym (assign_set b l p e))

-- ---- one literal of a constraint at its bound

module _ (s : Store) (n place : ℕ) (b : Bool) (r : CountRule) (is : r ≡ constraint_in s n) (shaped : IsShaped s.problem.atoms r) (d : Lit) (lt : place < length r.lits) (bound : IsAtBound b (values_in s) r) (unset : value_at (values_in s) (get_or r.lits place d).atom.0 ≡ None) where
  inside : (get_or r.lits place d).atom.0 < length (values_in s)
  inside = (let len = length_values s.problem.atoms s.entries in let low = within_at s.problem.atoms r.lits place d lt shaped.in_range in omega arith)

  some : 0 < unsets (values_in s) r.lits
  some = count_some (is_unset (values_in s)) r.lits place d lt (unset_lit (values_in s) (get_or r.lits place d) unset)

  pub lit_free : IsFree (values_in s) (directed b (get_or r.lits place d))
  lit_free = rw (directed_atom b (get_or r.lits place d)) (go (values_in s) (get_or r.lits place d).atom.0 inside unset)
    where
      go : (p : PartialAssignment) (a : ℕ) → a < length p → value_at p a ≡ None → slice_get p a ≡ Some None
      go [] a low e = absurd (omega arith)
      go (None ∷ p) zero low e = refl
      go (Some c ∷ p) zero low e = cc
      go (o ∷ p) (suc a) low e = go p a (omega arith) e

  pub lit_caused : (h : Hint) → IsNamed s.problem s.clauses h r → IsCaused s.problem s.clauses (values_in s) (directed b (get_or r.lits place d)) (Some h)
  lit_caused h named = (
    r,
    named,
    record {
      calm = bound_calm b (values_in s) r bound;
      active = bound_forces b (values_in s) r bound some;
      makes = rw (bound_forced b (values_in s) r bound some shaped.bounds) (directed_true b (assign_all b r.lits (values_in s)) (get_or r.lits place d) (assigned_at b r.lits (values_in s) place d shaped.distinct lt inside unset));
    },
  )

  -- it is at its bound still
  still_bound : IsAtBound b (with_true (values_in s) (directed b (get_or r.lits place d))) r
  still_bound = rw (directed_atom b (get_or r.lits place d), directed_sign b (get_or r.lits place d)) (go b bound)
    where
      up : (x : Bool) → trues (slice_set (values_in s) (get_or r.lits place d).atom.0 (Some x)) r.lits ≡ trues (values_in s) r.lits + bit (under_sign (get_or r.lits place d).positive x)
      up x = trues_after (values_in s) (get_or r.lits place d).atom.0 x inside unset r.lits ∙ ap (λ m. trues (values_in s) r.lits + m) (number_once x r.lits place d lt shaped.distinct)

      down : (x : Bool) → falses (slice_set (values_in s) (get_or r.lits place d).atom.0 (Some x)) r.lits ≡ falses (values_in s) r.lits + bit (under_sign (get_or r.lits place d).positive (not x))
      down x = falses_after (values_in s) (get_or r.lits place d).atom.0 x inside unset r.lits ∙ ap (λ m. falses (values_in s) r.lits + m) (number_once (not x) r.lits place d lt shaped.distinct)

      own : (sign b : Bool) → bit (under_sign sign (under_sign sign b)) ≡ bit b
      own true b = refl
      own false true = refl
      own false false = refl

      opposite : (sign b : Bool) → bit (under_sign sign (not (under_sign sign b))) ≡ bit (not b)
      opposite true b = refl
      opposite false true = refl
      opposite false false = refl

      go : (b : Bool) → IsAtBound b (values_in s) r → IsAtBound b (slice_set (values_in s) (get_or r.lits place d).atom.0 (Some (under_sign (get_or r.lits place d).positive b))) r
      go true (e, le) =
          let add = numbers_add (values_in s) r.lits in
          let left = some in
          let u = up (under_sign (get_or r.lits place d).positive true) in
          let v = down (under_sign (get_or r.lits place d).positive true) in
          let x = own (get_or r.lits place d).positive true in
          let y = opposite (get_or r.lits place d).positive true in
          let order = shaped.bounds (omega arith) in
          (omega (arith, v, y, e), omega (arith, u, x, e, le, order, add, left))
      go false (e, le) =
          let add = numbers_add (values_in s) r.lits in
          let left = some in
          let u = up (under_sign (get_or r.lits place d).positive false) in
          let v = down (under_sign (get_or r.lits place d).positive false) in
          let x = own (get_or r.lits place d).positive false in
          let y = opposite (get_or r.lits place d).positive false in
          let order = shaped.bounds (omega arith) in
          (omega (arith, u, x, e), omega (arith, v, y, e, le, order, add, left))

  module _ (new : Store) (l : Lit) (g : Hint) (kept : OnlyTrailDiffers s new) (entries : new.entries ≡ with_entry s.entries l (Some g)) (lit : l ≡ directed b (get_or r.lits place d)) where
    after : values_in new ≡ with_true (values_in s) (directed b (get_or r.lits place d))
    after = rw (kept.problem, entries, lit) (extended_append (replicate s.problem.atoms None) s.entries (record { lit = directed b (get_or r.lits place d); cause = Some g } ∷ []))

    same : constraint_in new n ≡ r
    same = rw (kept.problem, kept.clauses) (sym is)

    pub lit_bound : IsAtBound b (values_in new) (constraint_in new n)
    lit_bound = rw (same, after) still_bound

    pub lit_entries : g ≡ hint_in s n → completed new n b (place + 1) ≡ completed s n b place
    lit_entries hint =
        let hint' : hint_in new n ≡ g = rw (kept.problem, kept.clauses) (sym hint) in
        rw (same, after, hint', ← hint, ← is, entries, lit, append_assoc, setting_next g b (values_in s) r.lits place d lt unset) refl

-- ---- a constraint that was examined

module _ (old new : Store) (n : ℕ) (b : Bool) (named : IsNumbered old n) (active : forces (values_in old) (constraint_in old n).lits (constraint_in old n).lo (constraint_in old n).hi ≡ true) (bound : IsAtBound b (values_in old) (constraint_in old n)) (shaped : IsShaped old.problem.atoms (constraint_in old n)) (kept : OnlyTrailDiffers old new) (entries : new.entries ≡ completed old n b 0) where
  values_after : values_in new ≡ assign_all b (constraint_in old n).lits (values_in old)
  values_after = rw (kept.problem, entries, extended_append (replicate old.problem.atoms None) old.entries (entries_setting (hint_in old n) b (values_in old) (constraint_in old n).lits)) (extended_setting (hint_in old n) b (constraint_in old n).lits (values_in old))

  pub examined_quiet : IsAtBound b (values_in new) (constraint_in new n) → IsQuietConstraint (values_in new) (constraint_in new n)
  examined_quiet still =
      let same : constraint_in new n ≡ constraint_in old n = rw (kept.problem, kept.clauses) refl in
      let range : are_within (length (values_in old)) (constraint_in old n).lits ≡ true = rw (length_values old.problem.atoms old.entries) shaped.in_range in
      let none : unsets (values_in new) (constraint_in new n).lits ≡ 0 = rw (same, values_after) (none_left b (constraint_in old n).lits (values_in old) range) in
      (bound_calm b (values_in new) (constraint_in new n) still, idle_set (values_in new) (constraint_in new n).lits (constraint_in new n).lo (constraint_in new n).hi none)

  pub examined_grows : Grows old new
  examined_grows =
      let some = (Decides-ltb 0 (unsets (values_in old) (constraint_in old n).lits)).0 (forces_some (values_in old) (constraint_in old n).lits (constraint_in old n).lo (constraint_in old n).hi active).0 in
      let side = bound_upper b (values_in old) (constraint_in old n) bound some shaped.bounds in
      let forced_are : entries_forced (hint_in old n) (values_in old) (constraint_in old n) ≡ entries_setting (hint_in old n) b (values_in old) (constraint_in old n).lits = rw side (ap (λ t. entries_setting (hint_in old n) t (values_in old) (constraint_in old n).lits) (twice b)) in (
        record { hint = hint_in old n; rule = constraint_in old n } ∷ [],
        (named, bound_calm b (values_in old) (constraint_in old n) bound, active, tt),
        entries ∙ ap (λ xs. old.entries ++ xs) (sym (append-nil (entries_forced (hint_in old n) (values_in old) (constraint_in old n)) ∙ forced_are)),
      )
    where
      twice : (b : Bool) → not (not b) ≡ b
      twice true = refl
      twice false = refl
