-- A problem with a question is satisfied by some assignment or by none: only finitely many atoms of an
-- assignment count, and all their values are tried.
use Rattle.std.proofs.Common.{◌≡◌, ℕ, zero, suc, ◌+◌, ◌<◌, ◌≤◌, ◌⊎◌, Bool, true, false, List, [], ◌∷◌, take, refl, ap, ◌∙◌, inl, inr, arith}
use Rattle.std.specs.List.{AllByRecursion as Each}
use Rattle.std.proofs.lemmas.Bool.Decides.{leb_tells}
use Rattle.std.proofs.lemmas.List.{get_or-take}
use Rattle.count_core.specs.declared.lit.Lit.{Lit}
use Rattle.count_core.specs.declared.count_rule.CountRule.{CountRule}
use Rattle.count_core.specs.Problems.{Problem}
use Rattle.count_core.specs.Assignments.{under_sign, makes_true, true_number, SatisfiesRule, Satisfies, SatisfiesQuestion}
use Rattle.count_core.specs.Decisions.{Decided, IsSatisfiable, SatisfiabilityDecides}
use Rattle.count_core.proofs.Lists.{count_cons}

-- ---- decided facts

-- two decided facts together
pub both_decided : {P Q : Type 0} → Decided P → Decided Q → Decided (P × Q)
both_decided (inl p) (inl q) = inl (p, q)
both_decided (inl p) (inr n) = inr (λ h. n h.1)
both_decided (inr n) q = inr (λ h. n h.0)

-- a fact that is decided of each element
pub each_decided : {X : Type 0} (P : X → Type 0) → ((x : X) → Decided (P x)) → (xs : List X) → Decided (Each P xs)
each_decided P d [] = inl tt
each_decided P d (x ∷ xs) = both_decided (d x) (each_decided P d xs)

-- the order of two numbers
pub le_decided : (a b : ℕ) → Decided (a ≤ b)
le_decided a b = elim (leb_tells a b) [ inl h ↦ inl h.1 | inr h ↦ inr (λ le. let less = h.1 in omega arith) ]

-- the value of a test
pub true_decided : (b : Bool) → Decided (b ≡ true)
true_decided true = inl refl
true_decided false = inr (λ e. cc)

-- ---- all values of n atoms

-- Some values have P, or no values cut to n of them have it.
abbrev Tried : ℕ → (List Bool → Type 0) → Type 0
Tried n P = ((values : List Bool) × P values) ⊎ ((values : List Bool) → P (take n values) → ⊥)

-- a fact that is decided of all values is tried on those of up to n atoms
try_all : (n : ℕ) (P : List Bool → Type 0) → ((values : List Bool) → Decided (P values)) → Tried n P
try_all zero P d = from (d [])
  where
    from : Decided (P []) → Tried zero P
    from (inl h) = inl ([], h)
    from (inr not_empty) = inr (λ values h. not_empty h)
try_all (suc n) P d = from (d []) (try_all n (λ values. P (true ∷ values)) (λ values. d (true ∷ values))) (try_all n (λ values. P (false ∷ values)) (λ values. d (false ∷ values)))
  where
    none : (P [] → ⊥) → ((values : List Bool) → P (true ∷ take n values) → ⊥) → ((values : List Bool) → P (false ∷ take n values) → ⊥) → (values : List Bool) → P (take (suc n) values) → ⊥
    none not_empty not_true not_false [] h = not_empty h
    none not_empty not_true not_false (true ∷ values) h = not_true values h
    none not_empty not_true not_false (false ∷ values) h = not_false values h

    from : Decided (P []) → Tried n (λ values. P (true ∷ values)) → Tried n (λ values. P (false ∷ values)) → Tried (suc n) P
    from (inl h) t f = inl ([], h)
    from (inr not_empty) (inl (values, h)) f = inl (true ∷ values, h)
    from (inr not_empty) (inr not_true) (inl (values, h)) = inl (false ∷ values, h)
    from (inr not_empty) (inr not_true) (inr not_false) = inr (none not_empty not_true not_false)

-- ---- what the first n values keep

-- a number past each atom of the literals
abbrev past : List Lit → ℕ
past [] = zero
past (l ∷ ls) = suc l.atom.0 + past ls

-- a number past each atom of the rules
abbrev past_rules : List CountRule → ℕ
past_rules [] = zero
past_rules (r ∷ rs) = past r.lits + past_rules rs

module _ (n : ℕ) (values : List Bool) where
  -- whether a literal is true
  kept_literal : (l : Lit) → l.atom.0 < n → makes_true (take n values) l ≡ makes_true values l
  kept_literal l lt = ap (under_sign l.positive) (get_or-take n values l.atom.0 false lt)

  -- how many literals are true
  kept_number : (ls : List Lit) → past ls ≤ n → true_number (take n values) ls ≡ true_number values ls
  kept_number [] le = refl
  kept_number (l ∷ ls) le = rw (count_cons (makes_true (take n values)) l ls, count_cons (makes_true values) l ls, kept_literal l (omega arith), kept_number ls (omega arith)) refl

  -- that rules are satisfied
  kept_rules : (rs : List CountRule) → past_rules rs ≤ n → Each (SatisfiesRule values) rs → Each (SatisfiesRule (take n values)) rs
  kept_rules [] le h = tt
  kept_rules (r ∷ rs) le h = (rw (kept_number r.lits (omega arith)) h.0, kept_rules rs (omega arith) h.1)

  -- that a question is satisfied
  kept_question : (ls : List Lit) → past ls ≤ n → SatisfiesQuestion values ls → SatisfiesQuestion (take n values) ls
  kept_question [] le h = tt
  kept_question (l ∷ ls) le h = (kept_literal l (omega arith) ∙ h.0, kept_question ls (omega arith) h.1)

-- ---- problems with a question

-- the values satisfy both
abbrev SatisfiesBoth : Problem → List Lit → List Bool → Type 0
SatisfiesBoth problem question values = Satisfies values problem × SatisfiesQuestion values question

-- values can be tested
both_tested : (problem : Problem) (question : List Lit) (values : List Bool) → Decided (SatisfiesBoth problem question values)
both_tested problem question values =
    both_decided (each_decided (SatisfiesRule values) (λ r. both_decided (le_decided _ _) (le_decided _ _)) problem.rules)
    (each_decided (λ l. makes_true values l ≡ true) (λ l. true_decided (makes_true values l)) question)

-- a problem with a question is satisfiable or not
pub satisfiability_decides : SatisfiabilityDecides
satisfiability_decides problem question = from (try_all n (SatisfiesBoth problem question) (both_tested problem question))
  where
    n : ℕ
    n = past_rules problem.rules + past question

    from : Tried n (SatisfiesBoth problem question) → Decided (IsSatisfiable problem question)
    from (inl (values, h)) = inl (values, h.0, h.1)
    from (inr none) = inr (λ h. none h.0 (kept_rules n h.0 problem.rules (omega arith) h.1, kept_question n h.0 question (omega arith) h.2))
