-- Members of lists of literals, and clauses that hold only negations of some literals.
use Rattle.std.proofs.Common.{◌≡◌, ℕ, zero, suc, ◌<◌, Bool, true, false, not, List, [], ◌∷◌, ◌++◌, length, refl, sym, ap, ◌∙◌, subst, arith, ◌⊎◌, inl, inr}
use Rattle.std.specs.Prelude.{map, Contains}
use Rattle.std.specs.List.{AllByRecursion as Each}
use Rattle.std.proofs.lemmas.List.Elements.{All-from_recursion, All-contains, Contains-push_cases, Contains-append_left}
use Rattle.count_core.specs.declared.lit.Lit.{Lit}
use Rattle.count_core.specs.declared.atom.Atom.{Atom}
use Rattle.count_core.specs.Assignments.{negation}
use Rattle.count_core.specs.Steps.{NegatesOnly}

-- ---- members

module _ {X : Type 0} where
  pub first_member : (xs : List X) (x : X) → Contains (x ∷ xs) x
  first_member xs x = (zero, omega arith, refl)

  pub later_member : (xs : List X) (x y : X) → Contains xs x → Contains (y ∷ xs) x
  later_member xs x y (k, lt, is) = (suc k, omega arith, is)

  pub member_cases : (xs : List X) (x y : X) → Contains (y ∷ xs) x → (x ≡ y) ⊎ Contains xs x
  member_cases xs x y (zero, lt, is) = inl (sym is)
  member_cases xs x y (suc k, lt, is) = inr (k, omega arith, is)

  pub no_member : (x : X) → Contains [] x → ⊥
  no_member x (k, lt, is) = omega arith

  pub member_of_each : (P : X → Type 0) (xs : List X) (x : X) → Each P xs → Contains xs x → P x
  member_of_each P xs x h c = All-contains P xs x (All-from_recursion P xs h) c

  pub each_of_members : (P : X → Type 0) (xs : List X) → ((x : X) → Contains xs x → P x) → Each P xs
  each_of_members P [] h = tt
  each_of_members P (x ∷ xs) h = (h x (first_member xs x), each_of_members P xs (λ y c. h y (later_member xs y x c)))

-- ---- negations

not_twice : (b : Bool) → not (not b) ≡ b
not_twice true = refl
not_twice false = refl

pub negation_twice : (l : Lit) → negation (negation l) ≡ l
negation_twice l = ap (λ b. record { atom = l.atom; positive = b }) (not_twice l.positive)

negation_of : (l m : Lit) → l ≡ negation m → negation l ≡ m
negation_of l m e = ap negation e ∙ negation_twice m

negations_among : (ls ms : List Lit) → ((l : Lit) → Contains ls l → Contains ms l) → NegatesOnly ms (map negation ls)
negations_among [] ms h = tt
negations_among (l ∷ ls) ms h =
    (subst (Contains ms) (sym (negation_twice l)) (h l (first_member ls l)), negations_among ls ms (λ m c. h m (later_member ls m l c)))

-- the negations of literals hold only negations of them
pub negations_negate : (ls : List Lit) → NegatesOnly ls (map negation ls)
negations_negate ls = negations_among ls ls (λ l c. c)

-- a clause that lacks the negation of the last literal holds only negations of those before it
pub negates_before : (ls : List Lit) (l : Lit) (clause : List Lit) → NegatesOnly (ls ++ l ∷ []) clause → (Contains clause (negation l) → ⊥) → NegatesOnly ls clause
negates_before ls l clause h lacks = each_of_members (λ x. Contains ls (negation x)) clause go
  where
    go : (x : Lit) → Contains clause x → Contains ls (negation x)
    go x c = elim (Contains-push_cases ls l (negation x) (member_of_each (λ y. Contains (ls ++ l ∷ []) (negation y)) clause x h c)) [
      inl before ↦ before
      | inr e ↦ absurd (lacks (subst (Contains clause) (sym (negation_of l x e)) c))
      ]

-- a literal of such a clause over another atom than the last is the negation of one before it
pub before_last : (ls : List Lit) (l x : Lit) → Contains (ls ++ l ∷ []) (negation x) → (x.atom ≡ l.atom → ⊥) → Contains ls (negation x)
before_last ls l x c other = elim (Contains-push_cases ls l (negation x) c) [
  inl before ↦ before
  | inr e ↦ absurd (other (sym (ap (λ (m : Lit). m.atom) e)))
  ]

-- or is not the negation of the last
pub before_unlike : (ls : List Lit) (l x : Lit) → Contains (ls ++ l ∷ []) (negation x) → (x ≡ negation l → ⊥) → Contains ls (negation x)
before_unlike ls l x c other = elim (Contains-push_cases ls l (negation x) c) [
  inl before ↦ before
  | inr e ↦ absurd (other (sym (negation_of l x e)))
  ]

same_sign : (a b : Bool) → not a ≡ not b → a ≡ b
same_sign true true e = refl
same_sign true false e = cc
same_sign false true e = cc
same_sign false false e = refl

pub same_literal : (x y : Lit) → x.atom ≡ y.atom → not x.positive ≡ not y.positive → x ≡ y
same_literal x y e f =
    ap (λ (a : Atom). record { atom = a; positive = x.positive }) e
    ∙ ap (λ (b : Bool). record { atom = y.atom; positive = b }) (same_sign x.positive y.positive f)
