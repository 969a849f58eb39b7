-- What a side closes, and the sides of a split merged.
use Rattle.std.proofs.Common.{◌≡◌, ℕ, zero, suc, ◌+◌, ◌<◌, ◌≤◌, Bool, true, false, not, List, [], ◌∷◌, ◌++◌, length, length-take, take, drop, refl, sym, ap, ◌∙◌, subst, Option, Some, None, arith, ◌⊎◌, inl, inr}
use Rattle.std.specs.Prelude.{replicate, Contains}
use Rattle.std.proofs.lemmas.List.{length-append, take-append-le, take-take, take_all}
use Rattle.count_core.specs.declared.lit.Lit.{Lit}
use Rattle.count_core.specs.declared.atom.Atom.{Atom}
use Rattle.count_core.specs.Assignments.{negation}
use Rattle.count_core.specs.Steps.{NegatesOnly}
use Rattle.count_core.specs.PartialAssignments.{value_at}
use Rattle.refutations.specs.Derivations.{Derivation, clause_at}
use Rattle.refutations.specs.Joins.{AreSides, AreSideSteps, IsOfSides, IsJoined}
use Rattle.propagation.specs.Trails.{Entry, with_entry, values_of, IsFree}
use Rattle.propagation.specs.Engines.{Engine, values_in, IsSound}
use Rattle.serial_search.specs.Assumptions.{assumed_of}
use Rattle.serial_search.specs.declared.side.Side.{Side}
use Rattle.serial_search.specs.Sides.{IsLonger, KeepsFront, IsClosedBy, IsSide, AreClosedSides}
use Rattle.serial_search.proofs.Negations.{member_of_each, each_of_members, negates_before, before_last, before_unlike, negation_twice, same_literal}
use Rattle.serial_search.proofs.Trails.{assumed_entry, assumed_value, longer_by, longer_still, back_at_mark}

pub closed_same : (log : Derivation) (ls ms : List Lit) (n : ℕ) → ls ≡ ms → IsClosedBy log ls n → IsClosedBy log ms n
closed_same log ls ms n e h = subst (λ xs. IsClosedBy log xs n) e h

-- a side whose clause lacks the split closes what was assumed before it
pub closed_before : (log : Derivation) (ls : List Lit) (l : Lit) (n : ℕ) → IsClosedBy log (ls ++ l ∷ []) n → (Contains (clause_at log.steps n) (negation l) → ⊥) → IsClosedBy log ls n
closed_before log ls l n h lacks = record { within = h.within; negates = negates_before ls l (clause_at log.steps n) h.negates lacks }

module _ (ls : List Lit) (split : Lit) (first second : List Lit) (one : NegatesOnly (ls ++ split ∷ []) first) (two : NegatesOnly (ls ++ negation split ∷ []) second) where
  in_first : (x : Lit) → Contains first x → Contains (ls ++ split ∷ []) (negation x)
  in_first x c = member_of_each (λ m. Contains (ls ++ split ∷ []) (negation m)) first x one c

  in_second : (x : Lit) → Contains second x → Contains (ls ++ negation split ∷ []) (negation x)
  in_second x c = member_of_each (λ m. Contains (ls ++ negation split ∷ []) (negation m)) second x two c

  -- the clause that joins the sides holds only negations of what was assumed before the split
  pub joined_negates : (clause : List Lit) → IsJoined split first second clause → NegatesOnly ls clause
  joined_negates clause is = each_of_members (λ x. Contains ls (negation x)) clause go
    where
      go : (x : Lit) → Contains clause x → Contains ls (negation x)
      go x c = let of = (is.literals x).0 c in elim of.0 [
        | inl here ↦ before_unlike ls split x (in_first x here) of.2
        | inr there ↦ before_unlike ls (negation split) x (in_second x there) (λ e. of.1 (e ∙ negation_twice split))
      ]

  -- no other atom stands in both with opposite signs, since each assumed literal has one value
  pub sides_of : (e : Engine) → IsSound e → assumed_of e.entries ≡ ls → Contains first (negation split) → Contains second split → AreSides split first second
  sides_of e sound same held also = record { denies = held; asserts = also; agree = agree }
    where
      value : (x : Lit) → Contains ls (negation x) → value_at (values_in e) x.atom.0 ≡ Some (not x.positive)
      value x c = assumed_value e.problem e.clauses e.entries (replicate e.problem.atoms None) (negation x) sound.caused (subst (λ xs. Contains xs (negation x)) (sym same) c)

      agree : (x y : Lit) → Contains first x → Contains second y → x.atom ≡ y.atom → (x.atom ≡ split.atom → ⊥) → x ≡ y
      agree x y c d atoms other =
          let a = value x (before_last ls split x (in_first x c) other) in
          let b = value y (before_last ls (negation split) y (in_second y d) (λ q. other (atoms ∙ q))) in
          let c : value_at (values_in e) x.atom.0 ≡ Some (not y.positive) = ap (λ (k : Atom). value_at (values_in e) k.0) atoms ∙ b in
          let f : not x.positive ≡ not y.positive = cc in
          same_literal x y atoms f

-- ---- the trail through a split

-- what is set on the second side comes after what was there before the split
pub second_longer : (old before after turned new : List Entry) (split : Lit) (mark : ℕ) → IsLonger old before → mark ≡ length before → IsLonger (with_entry before split None) after → turned ≡ with_entry (take mark after) (negation split) None → IsLonger turned new → IsLonger old new
second_longer old before after turned new split mark longer is first back second =
    let same : take mark after ≡ before = back_at_mark before after split mark first is in
    let start : turned ≡ with_entry before (negation split) None = back ∙ ap (λ es. with_entry es (negation split) None) same in
    longer_still old before new longer (longer_still before (with_entry before (negation split) None) new (longer_by before (negation split) None) (subst (λ es. IsLonger es new) start second))

-- and this is assumed there
pub second_assumed : (before after turned : List Entry) (split : Lit) (mark : ℕ) → mark ≡ length before → IsLonger (with_entry before split None) after → turned ≡ with_entry (take mark after) (negation split) None → assumed_of turned ≡ assumed_of before ++ negation split ∷ []
second_assumed before after turned split mark is first back =
    let same : take mark after ≡ before = back_at_mark before after split mark first is in
    ap assumed_of (back ∙ ap (λ es. with_entry es (negation split) None) same) ∙ assumed_entry before (negation split)

pub free_again : (old new : Engine) (before after : List Entry) (split : Lit) (mark : ℕ) → new.problem ≡ old.problem → old.entries ≡ before → mark ≡ length before → IsLonger (with_entry before split None) after → IsFree (values_in old) split → IsFree (values_of new.problem.atoms (take mark after)) (negation split)
free_again old new before after split mark problem is at longer free =
    let same : take mark after ≡ old.entries = back_at_mark before after split mark longer at ∙ sym is in
    rw (problem, same) free

pub split_longer : (old before decided after : List Entry) (split : Lit) → IsLonger old before → decided ≡ with_entry before split None → IsLonger decided after → IsLonger old after
split_longer old before decided after split longer is on =
    longer_still old before after longer (longer_still before (with_entry before split None) after (longer_by before split None) (subst (λ es. IsLonger es after) is on))

-- ---- the front of a trail

pub keeps_longer : (n : ℕ) (old new : List Entry) → n ≤ length old → IsLonger old new → KeepsFront n old new
keeps_longer n old new le h = record {
  front = rw h.entries (take-append-le n old h.more le);
  within = rw h.entries (omega (arith, length-append old h.more));
}

pub keeps_back : (n m : ℕ) (old new : List Entry) → n ≤ m → m ≤ length old → new ≡ take m old → KeepsFront n old new
keeps_back n m old new le within is = record {
  front = rw is (take-take n m old le);
  within = rw is (omega (arith, length-take m old));
}

pub keeps_on : (n : ℕ) (a b c : List Entry) → KeepsFront n a b → KeepsFront n b c → KeepsFront n a c
keeps_on n a b c h g = record { front = g.front ∙ h.front; within = g.within }

pub keeps_all : (n : ℕ) (es : List Entry) → n ≤ length es → KeepsFront n es es
keeps_all n es le = record { front = refl; within = le }

parts : (n : ℕ) (es : List Entry) → es ≡ take n es ++ drop n es
parts zero es = refl
parts (suc n) [] = refl
parts (suc n) (e ∷ es) = ap (λ xs. e ∷ xs) (parts n es)

-- where the front is the whole of the older trail
pub front_whole : (n : ℕ) (old new : List Entry) → n ≡ length old → KeepsFront n old new → take n new ≡ old
front_whole n old new is h = h.front ∙ take_all n old (omega arith)

pub front_longer : (n : ℕ) (old new : List Entry) → n ≡ length old → KeepsFront n old new → IsLonger old new
front_longer n old new is h = record { more = drop n new; entries = parts n new ∙ ap (λ xs. xs ++ drop n new) (front_whole n old new is h) }

pub side_same : (log : Derivation) (e : Engine) (ls ms : List Lit) (s : Side) → ls ≡ ms → IsSide log e ls s → IsSide log e ms s
side_same log e ls ms s is h = subst (λ xs. IsSide log e xs s) is h
