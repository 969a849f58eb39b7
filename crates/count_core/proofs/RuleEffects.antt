-- What a rule says under a partial assignment: whether it conflicts, forces or is quiet, by the
-- numbers of its true and false literals.
use Rattle.std.proofs.Common.{◌≡◌, ◌≢◌, ℕ, ◌+◌, ◌-◌, ◌≤◌, ◌<◌, Bool, true, false, not, cond, List, [], ◌∷◌, length, ◌⊎◌, inl, inr, refl, arith}
use Rattle.std.specs.Prelude.{◌&&◌, ◌||◌, ◌==◌, nat_lt}
use Rattle.std.proofs.lemmas.Bool.Decides.{nat_tests}
use Rattle.count_core.specs.declared.lit.Lit.{Lit}
use Rattle.count_core.specs.PartialAssignments.{PartialAssignment, is_true, is_false, is_unset, trues, falses, unsets, conflicts, forces, assign_all, forced_assignment, IsQuiet, ForcesAll}
use Rattle.count_core.proofs.Lists.{count_cons}
use Rattle.count_core.proofs.Assigning.{true_not_false}

-- ---- the words, opened

-- when a rule conflicts
pub conflicts_is : (p : PartialAssignment) (ls : List Lit) (lo hi : ℕ) → conflicts p ls lo hi ≡ (nat_lt hi (trues p ls) || nat_lt (length ls - falses p ls) lo)
unfolding conflicts
conflicts_is p ls lo hi = refl

-- when it forces
pub forces_is : (p : PartialAssignment) (ls : List Lit) (lo hi : ℕ) → forces p ls lo hi ≡ (nat_lt 0 (unsets p ls) && ((trues p ls == hi) || (length ls - falses p ls == lo)))
unfolding forces
forces_is p ls lo hi = refl

-- what is set then
pub forced_is : (p : PartialAssignment) (ls : List Lit) (lo hi : ℕ) → forced_assignment p ls lo hi ≡ cond (trues p ls == hi) (assign_all false ls p) (cond (length ls - falses p ls == lo) (assign_all true ls p) p)
unfolding forced_assignment
forced_is p ls lo hi = refl

-- ---- numbers

one_of_three : (t f : Bool) → (t ≡ true → f ≡ false) → cond t 1 0 + cond f 1 0 + cond (not t && not f) 1 0 ≡ 1
one_of_three true true h = let e = h refl in cc
one_of_three true false h = refl
one_of_three false true h = refl
one_of_three false false h = refl

-- each literal is true, false or unset
pub numbers_add : (p : PartialAssignment) (ls : List Lit) → trues p ls + falses p ls + unsets p ls ≡ length ls
numbers_add p [] = refl
numbers_add p (l ∷ ls) =
    let rest = numbers_add p ls in
    let here = one_of_three (is_true p l) (is_false p l) (true_not_false p l) in
    let ct = count_cons (is_true p) l ls in
    let cf = count_cons (is_false p) l ls in
    let cu = count_cons (is_unset p) l ls in
    omega arith

-- a rule at both bounds has no unset literal, so it forces nothing
pub both_bounds : (p : PartialAssignment) (ls : List Lit) (lo hi : ℕ) → lo ≤ hi → trues p ls ≡ hi → length ls - falses p ls ≡ lo → unsets p ls ≡ 0
both_bounds p ls lo hi le e f = let add = numbers_add p ls in omega arith

-- ---- a rule with t true and f false literals

module _ (p : PartialAssignment) (ls : List Lit) (lo hi t f : ℕ) (ts : t ≡ trues p ls) (fs : f ≡ falses p ls) where
  -- more are true than may be, or fewer can be than must
  pub conflicts_outside : (hi < t) ⊎ (length ls - f < lo) → conflicts p ls lo hi ≡ true
  conflicts_outside (inl h) = rw conflicts_is (grind (arith, nat_tests))
  conflicts_outside (inr h) = rw conflicts_is (grind (arith, nat_tests))

  module _ (below : t ≤ hi) (above : lo ≤ length ls - f) where
    calm_within : conflicts p ls lo hi ≡ false
    calm_within = rw conflicts_is (grind (arith, nat_tests))

    -- no literal is unset
    pub quiet_all_set : t ≡ length ls - f → IsQuiet p ls lo hi
    quiet_all_set e = (calm_within, (let add = numbers_add p ls in rw forces_is (grind (arith, nat_tests))))

    -- it stands at no bound
    pub quiet_between : t ≢ hi → length ls - f ≢ lo → IsQuiet p ls lo hi
    quiet_between n m = (calm_within, rw forces_is (grind (arith, nat_tests)))

    -- some literal is unset, and no more may be true
    pub forces_false : t ≢ length ls - f → t ≡ hi → ForcesAll p ls lo hi false
    forces_false n e = record {
      calm = calm_within;
      active = (let add = numbers_add p ls in rw forces_is (grind (arith, nat_tests)));
      makes = (let is : (trues p ls == hi) ≡ true = grind (arith, nat_tests) in rw (forced_is, is) refl);
    }

    -- some literal is unset, and no more may be false
    pub forces_true : t ≢ length ls - f → t ≢ hi → length ls - f ≡ lo → ForcesAll p ls lo hi true
    forces_true n m e = record {
      calm = calm_within;
      active = (let add = numbers_add p ls in rw forces_is (grind (arith, nat_tests)));
      makes =
          (let not_hi : (trues p ls == hi) ≡ false = grind (arith, nat_tests) in
          let is : (length ls - falses p ls == lo) ≡ true = grind (arith, nat_tests) in
          rw (forced_is, not_hi, is) refl);
    }
