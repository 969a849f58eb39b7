-- Assignments that extend a partial one: where one satisfies a rule, the rule does not conflict, and
-- what it forces is so there.
use Rattle.std.proofs.Common.{◌≡◌, ℕ, ◌+◌, ◌-◌, ◌≤◌, Bool, true, false, not, cond, List, [], ◌∷◌, length, ◌⊎◌, inl, inr, refl, sym, ap, ◌∙◌, arith, Option, Some, None}
use Rattle.std.specs.Prelude.{count_by, slice_set, ◌&&◌, ◌==◌, replicate}
use Rattle.std.specs.List.{AllByRecursion as Each}
use Rattle.std.proofs.lemmas.Bool.Decides.{nat_tests}
use Rattle.count_core.specs.declared.lit.Lit.{Lit}
use Rattle.count_core.specs.Assignments.{value_of, under_sign, makes_true, SatisfiesRule}
use Rattle.count_core.specs.PartialAssignments.{PartialAssignment, value_at, has_sign, is_true, is_false, is_unset, trues, falses, unsets, conflicts, assign, assign_all, forced_assignment, Agrees}
use Rattle.count_core.proofs.Lists.{each_map, count_le, count_apart, count_all, count_cover}
use Rattle.count_core.proofs.Assigning.{value_at_set, value_at_none, unset_before}
use Rattle.count_core.proofs.RuleEffects.{numbers_add}

-- ---- signs

not_true : (c : Bool) → not c ≡ true → c ≡ false
not_true true e = sym e
not_true false e = refl

sign_true : (pos : Bool) (k : Option Bool) (x : Bool) → ((b : Bool) → k ≡ Some b → x ≡ b) → has_sign pos k ≡ true → under_sign pos x ≡ true
sign_true true None x h e = cc
sign_true false None x h e = cc
sign_true true (Some c) x h e = h c refl ∙ e
sign_true false (Some c) x h e = ap not (h c refl) ∙ e

sign_false : (pos : Bool) (k : Option Bool) (x : Bool) → ((b : Bool) → k ≡ Some b → x ≡ b) → has_sign (not pos) k ≡ true → under_sign pos x ≡ false
sign_false true None x h e = cc
sign_false false None x h e = cc
sign_false true (Some c) x h e = h c refl ∙ not_true c e
sign_false false (Some c) x h e = ap not (h c refl ∙ e)

-- a sign applied is taken back by the same sign
pub under_sign_back : (pos x b : Bool) → under_sign pos x ≡ b → x ≡ under_sign pos b
under_sign_back true x b e = e
under_sign_back false true b e = ap not e
under_sign_back false false b e = ap not e

-- ---- what is set agrees

-- any assignment extends the one in which nothing is set
pub nothing_agrees : (v : List Bool) (n : ℕ) → Agrees v (replicate n None)
nothing_agrees v n a b e = absurd (value_at_none n a b e)

-- an atom set to its value
pub set_agrees : (v : List Bool) (p : PartialAssignment) (a : ℕ) (x : Bool) → Agrees v p → value_of v a ≡ x → Agrees v (slice_set p a (Some x))
set_agrees v p a x ag e k c f = elim (value_at_set p a x k c f) [ inl w ↦ ap (value_of v) w.0 ∙ e ∙ sym w.1 | inr w ↦ ag k c w ]

-- a literal made what it is there, where it is unset
pub assign_agrees : (v : List Bool) (b : Bool) (l : Lit) (p : PartialAssignment) → Agrees v p → (is_unset p l ≡ true → makes_true v l ≡ b) → Agrees v (assign b l p)
assign_agrees v b l p ag h = go (is_unset p l) h
  where
    go : (u : Bool) → (u ≡ true → makes_true v l ≡ b) → Agrees v (cond u (slice_set p l.atom.0 (Some (under_sign l.positive b))) p)
    go true h = set_agrees v p l.atom.0 (under_sign l.positive b) ag (under_sign_back l.positive (value_of v l.atom.0) b (h refl))
    go false h = ag

-- each of some literals made what it is there, where it is unset
pub assign_all_agrees : (v : List Bool) (b : Bool) (ls : List Lit) (p : PartialAssignment) → Agrees v p → Each (λ l. is_unset p l ≡ true → makes_true v l ≡ b) ls → Agrees v (assign_all b ls p)
assign_all_agrees v b [] p ag h = ag
assign_all_agrees v b (l ∷ ls) p ag h =
    assign_all_agrees v b ls (assign b l p) (assign_agrees v b l p ag h.0)
    (each_map (λ m. is_unset p m ≡ true → makes_true v m ≡ b) (λ m. is_unset (assign b l p) m ≡ true → makes_true v m ≡ b) ls (λ m f e. f (unset_before b l m p e)) h.1)

-- ---- a rule that the assignment satisfies

module _ (v : List Bool) (p : PartialAssignment) (ag : Agrees v p) where
  -- what is set has its value in the assignment
  pub true_met : (l : Lit) → is_true p l ≡ true → makes_true v l ≡ true
  true_met l e = sign_true l.positive (value_at p l.atom.0) (value_of v l.atom.0) (ag l.atom.0) e

  -- and what is false is false there
  pub false_unmet : (l : Lit) → is_false p l ≡ true → makes_true v l ≡ false
  false_unmet l e = sign_false l.positive (value_at p l.atom.0) (value_of v l.atom.0) (ag l.atom.0) e

  -- a rule that has no unset literal and does not conflict is satisfied
  pub all_set_satisfies : (ls : List Lit) (lo hi : ℕ) → unsets p ls ≡ 0 → conflicts p ls lo hi ≡ false → SatisfiesRule v (record { lits = ls; lo = lo; hi = hi })
  unfolding conflicts
  all_set_satisfies ls lo hi none quiet =
      let a = count_le (is_true p) (makes_true v) ls true_met in
      let b = count_apart (is_false p) (makes_true v) ls false_unmet in
      let add = numbers_add p ls in
      let same : count_by (makes_true v) ls ≡ trues p ls = omega arith in
      (grind (arith, nat_tests), grind (arith, nat_tests))

module _ (v : List Bool) (p : PartialAssignment) (ag : Agrees v p) (ls : List Lit) (lo hi : ℕ) (met : SatisfiesRule v (record { lits = ls; lo = lo; hi = hi })) where
  -- it does not conflict
  pub no_conflict : conflicts p ls lo hi ≡ true → ⊥
  unfolding conflicts
  no_conflict e =
      let a = count_le (is_true p) (makes_true v) ls (true_met v p ag) in
      let b = count_apart (is_false p) (makes_true v) ls (false_unmet v p ag) in
      grind (arith, nat_tests)

  full : (trues p ls == hi) ≡ true → count_by (makes_true v) ls ≤ count_by (is_true p) ls
  full e = grind (arith, nat_tests)

  scarce : (length ls - falses p ls == lo) ≡ true → length ls ≤ count_by (is_false p) ls + count_by (makes_true v) ls
  scarce e = grind (arith, nat_tests)

  when_full : (l : Lit) → (makes_true v l ≡ true → is_true p l ≡ true) → is_unset p l ≡ true → makes_true v l ≡ false
  when_full l f u = go (makes_true v l) (is_true p l) f u
    where
      go : (m t : Bool) → (m ≡ true → t ≡ true) → (not t && not (is_false p l)) ≡ true → m ≡ false
      go false t f u = refl
      go true true f u = cc
      go true false f u = sym (f refl)

  when_scarce : (l : Lit) → (is_false p l ≡ true) ⊎ (makes_true v l ≡ true) → is_unset p l ≡ true → makes_true v l ≡ true
  when_scarce l (inr e) u = e
  when_scarce l (inl e) u = go (is_true p l) (rw e at u)
    where
      go : (t : Bool) → (not t && false) ≡ true → makes_true v l ≡ true
      go true u = cc
      go false u = cc

  -- at its upper bound its unset literals are false, at its lower bound true
  pub full_unmet : (trues p ls == hi) ≡ true → Each (λ l. is_unset p l ≡ true → makes_true v l ≡ false) ls
  full_unmet e = each_map _ _ ls when_full (count_all (is_true p) (makes_true v) ls (true_met v p ag) (full e))

  -- at its lower bound its unset literals are true
  pub scarce_met : (length ls - falses p ls == lo) ≡ true → Each (λ l. is_unset p l ≡ true → makes_true v l ≡ true) ls
  scarce_met f = each_map _ _ ls when_scarce (count_cover (is_false p) (makes_true v) ls (false_unmet v p ag) (scarce f))

  -- what it forces is so in the assignment
  pub forced_agrees : Agrees v (forced_assignment p ls lo hi)
  unfolding forced_assignment
  forced_agrees = go (trues p ls == hi) refl (length ls - falses p ls == lo) refl
    where
      go : (t : Bool) → (trues p ls == hi) ≡ t → (u : Bool) → (length ls - falses p ls == lo) ≡ u → Agrees v (cond t (assign_all false ls p) (cond u (assign_all true ls p) p))
      go true e u f = assign_all_agrees v false ls p ag (full_unmet e)
      go false e true f = assign_all_agrees v true ls p ag (scarce_met f)
      go false e false f = ag
