-- The fault that is reported is the first of the first rule that has one.
use Rattle.std.proofs.Common.{◌≡◌, ℕ, zero, suc, ◌+◌, ◌<◌, Bool, true, false, cond, List, [], ◌∷◌, Option, Some, None, slice_get, refl, sym, subst, arith}
use Rattle.std.specs.Prelude.{nat_lt}
use Rattle.std.proofs.lemmas.Bool.Decides.{Decides-ltb}
use Rattle.count_core.specs.declared.count_rule.CountRule.{CountRule}
use Rattle.count_core.specs.declared.faults.CoreFault.{CoreFault}
use Rattle.count_core.specs.declared.faults.CoreFault.TheVariants.{AtomRange, RepeatedAtom, BadBounds, NoMemory}
use Rattle.count_core.specs.Problems.{repeats, are_within, IsWellFormedRule, fault_of, or_else, first_fault}
use Rattle.count_core.specs.FirstFaults.{IsFaultOf, IsFirstFault, TellsFirstFault}
use Rattle.count_core.proofs.Rules.{no_fault, well_formed_no_fault, rules_well_formed, well_formed_rules}

-- ---- one rule

is_told : (atoms n : ℕ) (r : CountRule) (f : CoreFault) → fault_of atoms n r ≡ Some f → IsFaultOf atoms n r f
is_told atoms n r f e = go (are_within atoms r.lits) refl (repeats r.lits) refl (nat_lt r.hi r.lo) refl e
  where
    go : (a : Bool) → are_within atoms r.lits ≡ a → (b : Bool) → repeats r.lits ≡ b → (c : Bool) → nat_lt r.hi r.lo ≡ c
        → cond a (cond b (Some (RepeatedAtom n)) (cond c (Some (BadBounds n)) None)) (Some (AtomRange n)) ≡ Some f → IsFaultOf atoms n r f
    go true isa false isb false isc e = cc
    go true isa false isb true isc e = let same : BadBounds n ≡ f = cc in subst (IsFaultOf atoms n r) same (refl, isa, isb, (Decides-ltb r.hi r.lo).0 isc)
    go true isa true isb c isc e = let same : RepeatedAtom n ≡ f = cc in subst (IsFaultOf atoms n r) same (refl, isa, isb)
    go false isa b isb c isc e = let same : AtomRange n ≡ f = cc in subst (IsFaultOf atoms n r) same (refl, isa)

tells : (atoms n : ℕ) (r : CountRule) (f : CoreFault) → IsFaultOf atoms n r f → fault_of atoms n r ≡ Some f
tells atoms n r (AtomRange k) h = rw (h.1, h.0) refl
tells atoms n r (RepeatedAtom k) h = rw (h.1, h.2, h.0) refl
tells atoms n r (BadBounds k) h = rw (h.1, h.2, (Decides-ltb r.hi r.lo).1 h.3, h.0) refl
tells atoms n r NoMemory h = absurd h

-- ---- rules that are numbered from n

record FirstFrom (atoms n : ℕ) (rules : List CountRule) (fault : CoreFault) : Type 0 where
  place : ℕ
  rule : CountRule
  is_rule : slice_get rules place ≡ Some rule
  before : (k : ℕ) (other : CountRule) → k < place → slice_get rules k ≡ Some other → IsWellFormedRule atoms other
  has : IsFaultOf atoms (n + place) rule fault

first_told : (atoms n : ℕ) (rs : List CountRule) (f : CoreFault) → first_fault atoms n rs ≡ Some f → FirstFrom atoms n rs f
first_told atoms n [] f e = cc
first_told atoms n (r ∷ rs) f e = go (fault_of atoms n r) refl e (first_told atoms (n + 1) rs f)
  where
    here : n ≡ n + 0
    here = omega arith

    later : FirstFrom atoms (n + 1) rs f → IsWellFormedRule atoms r → FirstFrom atoms n (r ∷ rs) f
    later h well = record {
      place = suc h.place;
      rule = h.rule;
      is_rule = h.is_rule;
      before = before;
      has = subst (λ k. IsFaultOf atoms k h.rule f) place h.has;
    }
      where
        place : (n + 1) + h.place ≡ n + suc h.place
        place = omega arith

        before : (k : ℕ) (other : CountRule) → k < suc h.place → slice_get (r ∷ rs) k ≡ Some other → IsWellFormedRule atoms other
        before zero other lt at = let same : r ≡ other = cc in subst (IsWellFormedRule atoms) same well
        before (suc k) other lt at = h.before k other (omega (arith, lt)) at

    go : (o : Option CoreFault) → fault_of atoms n r ≡ o → or_else o (first_fault atoms (n + 1) rs) ≡ Some f
        → (first_fault atoms (n + 1) rs ≡ Some f → FirstFrom atoms (n + 1) rs f) → FirstFrom atoms n (r ∷ rs) f
    go None is e rest = later (rest e) (no_fault atoms n r is)
    go (Some g) is e rest =
        let same : g ≡ f = cc in
        record {
          place = zero;
          rule = r;
          is_rule = refl;
          before = λ k other lt at. absurd (omega (arith, lt));
          has = subst (λ k. IsFaultOf atoms k r f) here (subst (IsFaultOf atoms n r) same (is_told atoms n r g is));
        }

first_tells : (atoms n : ℕ) (rs : List CountRule) (f : CoreFault) (place : ℕ) (rule : CountRule) → slice_get rs place ≡ Some rule
    → ((k : ℕ) (other : CountRule) → k < place → slice_get rs k ≡ Some other → IsWellFormedRule atoms other)
    → IsFaultOf atoms (n + place) rule f → first_fault atoms n rs ≡ Some f
first_tells atoms n [] f place rule at before has = cc
first_tells atoms n (r ∷ rs) f zero rule at before has =
    let same : r ≡ rule = cc in
    let here : n + 0 ≡ n = omega arith in
    let told : fault_of atoms n r ≡ Some f = tells atoms n r f (subst (λ x. IsFaultOf atoms n x f) (sym same) (subst (λ k. IsFaultOf atoms k rule f) here has)) in
    rw told refl
first_tells atoms n (r ∷ rs) f (suc place) rule at before has =
    let on : n + suc place ≡ (n + 1) + place = omega arith in
    let none = well_formed_no_fault atoms n r (before zero r (omega arith) refl) in
    let rest = first_tells atoms (n + 1) rs f place rule at (λ k other lt is. before (suc k) other (omega (arith, lt)) is) (subst (λ k. IsFaultOf atoms k rule f) on has) in
    rw none rest

-- what is reported is the first fault, and the other way
pub tells_first_fault : TellsFirstFault
tells_first_fault = record {
  fault = λ atoms rules fault. (λ e. first atoms rules fault (first_told atoms 0 rules fault e), λ h. first_tells atoms 0 rules fault h.number h.rule h.is_rule h.before (subst (λ k. IsFaultOf atoms k h.rule fault) (sym (from_none h.number)) h.has));
  none = λ atoms rules. (rules_well_formed atoms 0 rules, well_formed_rules atoms 0 rules);
}
  where
    from_none : (k : ℕ) → 0 + k ≡ k
    from_none k = omega arith

    first : (atoms : ℕ) (rules : List CountRule) (fault : CoreFault) → FirstFrom atoms 0 rules fault → IsFirstFault atoms rules fault
    first atoms rules fault h = record { number = h.place; rule = h.rule; is_rule = h.is_rule; before = h.before; has = subst (λ k. IsFaultOf atoms k h.rule fault) (from_none h.place) h.has }
