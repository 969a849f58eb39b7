-- What a constraint does by its numbers.
use Rattle.std.proofs.Common.{◌≡◌, ◌≢◌, ℕ, ◌-◌, ◌<◌, ◌≤◌, Bool, true, false, not, List, length, refl, arith, inl, inr, ◌∙◌, sym}
use Rattle.std.specs.Prelude.{◌==◌, ◌||◌, nat_lt}
use Rattle.std.proofs.lemmas.Bool.Decides.{nat_tests}
use Rattle.count_core.specs.declared.count_rule.CountRule.{CountRule}
use Rattle.count_core.specs.declared.lit.Lit.{Lit}
use Rattle.count_core.specs.PartialAssignments.{PartialAssignment, trues, falses, unsets, conflicts, forces, forced_assignment, assign_all}
use Rattle.count_core.proofs.Lists.{both_true}
use Rattle.count_core.proofs.RuleEffects.{numbers_add, conflicts_is, forces_is, forced_is, conflicts_outside, quiet_all_set, quiet_between}
use Rattle.propagation.specs.declared.status.Status.{Status}
use Rattle.propagation.specs.declared.status.Status.TheVariants.{Conflicting, Forcing, Quiet}
use Rattle.propagation.specs.Statuses.{IsAtBound, HasStatus, HasCounts}
use Rattle.propagation.proofs.Basics.{true_either, neither}

module _ (p : PartialAssignment) (ls : List Lit) (lo hi : ℕ) where
  -- the numbers are within the bounds
  pub calm_within : trues p ls ≤ hi → lo ≤ length ls - falses p ls → conflicts p ls lo hi ≡ false
  calm_within a b =
      let x : nat_lt hi (trues p ls) ≡ false = grind (arith, nat_tests) in
      let y : nat_lt (length ls - falses p ls) lo ≡ false = grind (arith, nat_tests) in
      rw (conflicts_is, x, y) refl

  pub calm_over : conflicts p ls lo hi ≡ false → (nat_lt hi (trues p ls) ≡ false) × (nat_lt (length ls - falses p ls) lo ≡ false)
  calm_over e = neither (nat_lt hi (trues p ls)) (nat_lt (length ls - falses p ls) lo) (sym (conflicts_is p ls lo hi) ∙ e)

  -- no literal is unset
  pub idle_set : unsets p ls ≡ 0 → forces p ls lo hi ≡ false
  idle_set none =
      let x : nat_lt 0 (unsets p ls) ≡ false = grind (arith, nat_tests) in
      rw (forces_is, x) refl

  forces_at : 0 < unsets p ls → ((trues p ls == hi) || (length ls - falses p ls == lo)) ≡ true → forces p ls lo hi ≡ true
  forces_at some bound =
      let left : nat_lt 0 (unsets p ls) ≡ true = grind (arith, nat_tests) in
      rw (forces_is, left) bound

  pub forces_upper : 0 < unsets p ls → trues p ls ≡ hi → forces p ls lo hi ≡ true
  forces_upper some e = (let hit : (trues p ls == hi) ≡ true = grind (arith, nat_tests) in forces_at some (rw hit refl))

  pub forces_lower : 0 < unsets p ls → length ls - falses p ls ≡ lo → forces p ls lo hi ≡ true
  forces_lower some e =
      let hit : (length ls - falses p ls == lo) ≡ true = grind (arith, nat_tests) in
      forces_at some (true_either (trues p ls == hi) (length ls - falses p ls == lo) hit)

  -- what forces has an unset literal and is at a bound
  pub forces_some : forces p ls lo hi ≡ true → (nat_lt 0 (unsets p ls) ≡ true) × (((trues p ls == hi) || (length ls - falses p ls == lo)) ≡ true)
  forces_some e = both_true (nat_lt 0 (unsets p ls)) ((trues p ls == hi) || (length ls - falses p ls == lo)) (sym (forces_is p ls lo hi) ∙ e)

  forced_upper : trues p ls ≡ hi → forced_assignment p ls lo hi ≡ assign_all false ls p
  forced_upper e = (let hit : (trues p ls == hi) ≡ true = grind (arith, nat_tests) in rw (forced_is, hit) refl)

  forced_lower : trues p ls ≢ hi → length ls - falses p ls ≡ lo → forced_assignment p ls lo hi ≡ assign_all true ls p
  forced_lower ne e =
      let miss : (trues p ls == hi) ≡ false = grind (arith, nat_tests) in
      let hit : (length ls - falses p ls == lo) ≡ true = grind (arith, nat_tests) in
      rw (forced_is, miss, hit) refl

-- the status by the numbers is the status
pub status_counted : (p : PartialAssignment) (r : CountRule) (t f : ℕ) → t ≡ trues p r.lits → f ≡ falses p r.lits → (s : Status) → HasCounts (length r.lits) r.lo r.hi t f s → HasStatus p r s
status_counted p r t f ts fs Conflicting h = conflicts_outside p r.lits r.lo r.hi t f ts fs h
status_counted p r t f ts fs (Forcing true) (ne, at, le) = (let add = numbers_add p r.lits in forces_lower p r.lits r.lo r.hi (omega arith) (omega arith), (omega arith, omega arith))
status_counted p r t f ts fs (Forcing false) (ne, at, le) = (let add = numbers_add p r.lits in forces_upper p r.lits r.lo r.hi (omega arith) (omega arith), (omega arith, omega arith))
status_counted p r t f ts fs Quiet (le, ge, inl e) = quiet_all_set p r.lits r.lo r.hi t f ts fs le ge (sym e)
status_counted p r t f ts fs Quiet (le, ge, inr (a, b)) = quiet_between p r.lits r.lo r.hi t f ts fs le ge a b

-- ---- a constraint at a bound

module _ (b : Bool) (p : PartialAssignment) (r : CountRule) where
  -- it does not conflict
  pub bound_calm : IsAtBound b p r → conflicts p r.lits r.lo r.hi ≡ false
  bound_calm = go b
    where
      go : (b : Bool) → IsAtBound b p r → conflicts p r.lits r.lo r.hi ≡ false
      go true (at, le) = calm_within p r.lits r.lo r.hi le (omega arith)
      go false (at, le) = calm_within p r.lits r.lo r.hi (omega arith) le

  -- it forces where a literal is unset
  pub bound_forces : IsAtBound b p r → 0 < unsets p r.lits → forces p r.lits r.lo r.hi ≡ true
  bound_forces = go b
    where
      go : (b : Bool) → IsAtBound b p r → 0 < unsets p r.lits → forces p r.lits r.lo r.hi ≡ true
      go true (at, le) some = forces_lower p r.lits r.lo r.hi some at
      go false (at, le) some = forces_upper p r.lits r.lo r.hi some at

  -- at the lower one it is not at the upper one as well
  pub bound_upper : IsAtBound b p r → 0 < unsets p r.lits → (0 < length r.lits → r.lo ≤ r.hi) → (trues p r.lits == r.hi) ≡ not b
  bound_upper = go b
    where
      go : (b : Bool) → IsAtBound b p r → 0 < unsets p r.lits → (0 < length r.lits → r.lo ≤ r.hi) → (trues p r.lits == r.hi) ≡ not b
      go false (at, le) some order = grind (arith, nat_tests)
      go true (at, le) some order =
          let add = numbers_add p r.lits in
          let bounds : r.lo ≤ r.hi = order (omega arith) in
          let ne : trues p r.lits ≢ r.hi = λ e. absurd (omega arith) in
          grind (arith, nat_tests)

  -- namely all of its unset literals, in one direction
  pub bound_forced : IsAtBound b p r → 0 < unsets p r.lits → (0 < length r.lits → r.lo ≤ r.hi) → forced_assignment p r.lits r.lo r.hi ≡ assign_all b r.lits p
  bound_forced = go b
    where
      go : (b : Bool) → IsAtBound b p r → 0 < unsets p r.lits → (0 < length r.lits → r.lo ≤ r.hi) → forced_assignment p r.lits r.lo r.hi ≡ assign_all b r.lits p
      go false (at, le) some order = forced_upper p r.lits r.lo r.hi at
      go true (at, le) some order =
          let add = numbers_add p r.lits in
          let bounds : r.lo ≤ r.hi = order (omega arith) in
          let ne : trues p r.lits ≢ r.hi = λ e. absurd (omega arith) in
          forced_lower p r.lits r.lo r.hi ne at
