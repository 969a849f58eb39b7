-- Which rules make a problem.
use Rattle.std.proofs.Common.{◌≡◌, ◌≢◌, ℕ, zero, suc, ◌+◌, ◌<◌, Bool, true, false, cond, List, [], ◌∷◌, refl, sym, ◌∙◌, ap, arith, Option, Some, None, slice_get}
use Rattle.std.specs.Prelude.{◌||◌, ◌==◌, nat_lt}
use Rattle.std.specs.List.{AllByRecursion as Each}
use Rattle.std.proofs.lemmas.Bool.Decides.{nat_tests, Decides-ltb, Decides-eqb}
use Rattle.count_core.specs.declared.lit.Lit.{Lit}
use Rattle.count_core.specs.declared.count_rule.CountRule.{CountRule}
use Rattle.count_core.specs.declared.faults.CoreFault.{CoreFault}
use Rattle.count_core.specs.declared.faults.CoreFault.TheVariants.{AtomRange, RepeatedAtom, BadBounds}
use Rattle.count_core.specs.Problems.{mentions, repeats, are_within, IsWellFormedRule, fault_of, or_else, first_fault}
use Rattle.count_core.proofs.Lists.{both_true}

-- ---- rules without a fault

-- a rule without a fault is well formed
pub no_fault : (atoms n : ℕ) (r : CountRule) → fault_of atoms n r ≡ None → IsWellFormedRule atoms r
no_fault atoms n r e = go (are_within atoms r.lits) refl (repeats r.lits) refl (nat_lt r.hi r.lo) refl e
  where
    go : (a : Bool) → are_within atoms r.lits ≡ a → (b : Bool) → repeats r.lits ≡ b → (c : Bool) → nat_lt r.hi r.lo ≡ c → cond a (cond b (Some (RepeatedAtom n)) (cond c (Some (BadBounds n)) None)) (Some (AtomRange n)) ≡ None → IsWellFormedRule atoms r
    go true isa false isb false isc e = record { in_range = isa; distinct = isb; bounds = grind (arith, nat_tests) }
    go true isa false isb true isc e = cc
    go true isa true isb c isc e = cc
    go false isa b isb c isc e = cc

-- and the other way
pub well_formed_no_fault : (atoms n : ℕ) (r : CountRule) → IsWellFormedRule atoms r → fault_of atoms n r ≡ None
well_formed_no_fault atoms n r h =
    let in_order : nat_lt r.hi r.lo ≡ false = (let le = h.bounds in grind (arith, nat_tests)) in
    rw (h.in_range, h.distinct, in_order)

-- rules have no fault exactly where each is well formed
pub rules_well_formed : (atoms n : ℕ) (rs : List CountRule) → first_fault atoms n rs ≡ None → Each (IsWellFormedRule atoms) rs
rules_well_formed atoms n [] e = tt
rules_well_formed atoms n (r ∷ rs) e = go (fault_of atoms n r) refl e (rules_well_formed atoms (n + 1) rs)
  where
    go : (o : Option CoreFault) → fault_of atoms n r ≡ o → or_else o (first_fault atoms (n + 1) rs) ≡ None → (first_fault atoms (n + 1) rs ≡ None → Each (IsWellFormedRule atoms) rs) → Each (IsWellFormedRule atoms) (r ∷ rs)
    go None is e rest = (no_fault atoms n r is, rest e)
    go (Some f) is e rest = cc

-- and the other way
pub well_formed_rules : (atoms n : ℕ) (rs : List CountRule) → Each (IsWellFormedRule atoms) rs → first_fault atoms n rs ≡ None
well_formed_rules atoms n [] h = refl
well_formed_rules atoms n (r ∷ rs) h = rw (well_formed_no_fault atoms n r h.0, well_formed_rules atoms (n + 1) rs h.1)

-- ---- atoms by their places

mentions_at : (a : ℕ) (ls : List Lit) (j : ℕ) (m : Lit) → slice_get ls j ≡ Some m → mentions a ls ≡ false → m.atom.0 ≢ a
mentions_at a [] j m e h q = cc
mentions_at a (l ∷ ls) j m e h q = go (l.atom.0 == a) refl h (λ k f g. mentions_at a ls k m f g q) j e
  where
    go : (b : Bool) → (l.atom.0 == a) ≡ b → (b || mentions a ls) ≡ false → ((k : ℕ) → slice_get ls k ≡ Some m → mentions a ls ≡ false → ⊥) → (j : ℕ) → slice_get (l ∷ ls) j ≡ Some m → ⊥
    go true is h rest j e = cc
    go false is h rest zero e =
        let same : l ≡ m = cc in
        let atoms : l.atom.0 ≡ a = ap (λ (x : Lit). x.atom.0) same ∙ q in
        let yes : (l.atom.0 == a) ≡ true = (Decides-eqb l.atom.0 a).1 atoms in
        cc
    go false is h rest (suc j) e = rest j e h

-- where no atom stands twice, the literals at two places are over different atoms
pub apart_at : (ls : List Lit) → repeats ls ≡ false → (i j : ℕ) (l m : Lit) → i < j → slice_get ls i ≡ Some l → slice_get ls j ≡ Some m → m.atom.0 ≢ l.atom.0
apart_at [] h i j l m lt e f = λ q. cc
apart_at (x ∷ xs) h i j l m lt e f = go (mentions x.atom.0 xs) refl h (λ g i j lt e f. apart_at xs g i j l m lt e f) i j lt e f
  where
    go : (b : Bool) → mentions x.atom.0 xs ≡ b → (b || repeats xs) ≡ false → (repeats xs ≡ false → (i j : ℕ) → i < j → slice_get xs i ≡ Some l → slice_get xs j ≡ Some m → m.atom.0 ≢ l.atom.0) → (i j : ℕ) → i < j → slice_get (x ∷ xs) i ≡ Some l → slice_get (x ∷ xs) j ≡ Some m → m.atom.0 ≢ l.atom.0
    go true is h rest i j lt e f = cc
    go false is h rest i zero lt e f = absurd (omega arith)
    go false is h rest zero (suc j) lt e f = let same : x ≡ l = cc in rw (sym (ap (λ (y : Lit). y.atom.0) same)) (mentions_at x.atom.0 xs j m f is)
    go false is h rest (suc i) (suc j) lt e f = rest h i j (omega arith) e f

-- the other way
not_mentioned : (a : ℕ) (ls : List Lit) → ((j : ℕ) (m : Lit) → slice_get ls j ≡ Some m → m.atom.0 ≢ a) → mentions a ls ≡ false
not_mentioned a [] h = refl
not_mentioned a (l ∷ ls) h = go (l.atom.0 == a) refl (not_mentioned a ls (λ j m e. h (suc j) m e))
  where
    go : (b : Bool) → (l.atom.0 == a) ≡ b → mentions a ls ≡ false → (b || mentions a ls) ≡ false
    go true is rest = absurd (h zero l refl ((Decides-eqb l.atom.0 a).0 is))
    go false is rest = rest

-- where the literals at any two places are over different atoms, none stands twice
pub distinct_from_places : (ls : List Lit) → ((i j : ℕ) (l m : Lit) → i < j → slice_get ls i ≡ Some l → slice_get ls j ≡ Some m → m.atom.0 ≢ l.atom.0) → repeats ls ≡ false
distinct_from_places [] h = refl
distinct_from_places (l ∷ ls) h =
    rw (not_mentioned l.atom.0 ls (λ j m e. h zero (suc j) l m (omega arith) refl e), distinct_from_places ls (λ i j x y lt e f. h (suc i) (suc j) x y (omega arith) e f))

-- literals are within so many atoms exactly where each is
pub within_from_each : (atoms : ℕ) (ls : List Lit) → Each (λ (l : Lit). l.atom.0 < atoms) ls → are_within atoms ls ≡ true
within_from_each atoms [] h = refl
within_from_each atoms (l ∷ ls) h = rw ((Decides-ltb l.atom.0 atoms).1 h.0, within_from_each atoms ls h.1)

-- and the other way
pub each_within : (atoms : ℕ) (ls : List Lit) → are_within atoms ls ≡ true → Each (λ (l : Lit). l.atom.0 < atoms) ls
each_within atoms [] e = tt
each_within atoms (l ∷ ls) e =
    let parts = both_true (nat_lt l.atom.0 atoms) (are_within atoms ls) e in
    ((Decides-ltb l.atom.0 atoms).0 parts.0, each_within atoms ls parts.1)
