-- A store as it is made, and one to which a clause is added.
use Rattle.std.proofs.Common.{◌≡◌, ℕ, zero, suc, ◌≤◌, ◌<◌, ◌^◌, Bool, true, false, not, cond, List, [], ◌∷◌, ◌++◌, map, length, length-append, Option, Some, None, refl, sym, ap, ◌∙◌, arith, slice_get}
use Rattle.std.specs.Prelude.{◌==◌, replicate}
use Rattle.std.proofs.lemmas.List.{append-nil, append_assoc, length-replicate, get_or_append_left}
use Rattle.count_core.specs.declared.lit.Lit.{Lit}
use Rattle.count_core.specs.declared.hint.Hint.{Hint}
use Rattle.count_core.specs.declared.hint.Hint.TheVariants.{Rule, Step as Earlier}
use Rattle.count_core.specs.declared.count_rule.CountRule.{CountRule}
use Rattle.count_core.specs.Problems.{Problem, IsWellFormed, IsWellFormedRule, are_within, repeats}
use Rattle.count_core.specs.PartialAssignments.{PartialAssignment, value_at, has_sign, is_true, is_false, trues, falses}
use Rattle.count_core.proofs.Lists.{count_cons, each_map, each_push}
use Rattle.count_core.proofs.Assigning.{value_at_none}
use Rattle.propagation.specs.declared.clause.Clause.{Clause}
use Rattle.propagation.specs.Trails.{Entry, with_true, values_of}
use Rattle.propagation.specs.Constraints.{rule_of_clause, constraints_of, constraint_at, nth, no_constraint, IsNamed}
use Rattle.propagation.specs.Causes.{IsCaused, AreCaused}
use Rattle.propagation.specs.Occurrences.{OccurrenceList, HaveSameItems, counter, AreEntered, AreListed, AreShort, AreLengths}
use Rattle.propagation.specs.Stores.{IsShaped, AreCounted, IsStore}
use Rattle.propagation.proofs.Basics.{bit, nth_push}
use Rattle.propagation.proofs.Splits.{split_new, split_same, split_enter}
use Rattle.propagation.proofs.Lists.{listed_push, short_push}

-- ---- a store as it is made

pub counter_zero : (n k : ℕ) → counter (replicate n 0) k ≡ 0
counter_zero zero k = refl
counter_zero (suc n) zero = refl
counter_zero (suc n) (suc k) = counter_zero n k

sign_nowhere : (s : Bool) (n a : ℕ) → has_sign s (value_at (replicate n None) a) ≡ false
sign_nowhere s n a = go (value_at (replicate n None) a) refl
  where
    go : (o : Option Bool) → value_at (replicate n None) a ≡ o → has_sign s o ≡ false
    go None e = refl
    go (Some c) e = absurd (value_at_none n a c e)

none_true : (n : ℕ) (ls : List Lit) → trues (replicate n None) ls ≡ 0
none_true n [] = refl
none_true n (l ∷ ls) = (let e = ap bit (sign_nowhere l.positive n l.atom.0) in omega (arith, count_cons (is_true (replicate n None)) l ls, none_true n ls, e))

none_false : (n : ℕ) (ls : List Lit) → falses (replicate n None) ls ≡ 0
none_false n [] = refl
none_false n (l ∷ ls) = (let e = ap bit (sign_nowhere (not l.positive) n l.atom.0) in omega (arith, count_cons (is_false (replicate n None)) l ls, none_false n ls, e))

pub store_new : (problem : Problem) (atoms n : ℕ) (clauses : List Clause) (es : List Entry) (ts fs : List ℕ) (lists : List OccurrenceList) (splits : List ℕ) → clauses ≡ [] → es ≡ [] → atoms ≡ problem.atoms → n ≡ length problem.rules → ts ≡ replicate n 0 → fs ≡ replicate n 0
    → IsWellFormed problem → AreListed problem.atoms problem.rules lists → AreShort problem.rules → AreLengths splits lists → IsStore problem clauses atoms es ts fs lists splits
store_new problem atoms n clauses es ts fs lists splits no_clauses no_entries same number is_t is_f formed listed short lengths = rw (no_clauses, no_entries) made
  where
    all : constraints_of problem [] ≡ problem.rules
    all = append-nil problem.rules

    made : IsStore problem [] atoms [] ts fs lists splits
    made = record {
      atoms_are = same;
      shaped = rw all (each_map (IsWellFormedRule problem.atoms) (IsShaped problem.atoms) problem.rules (λ r h. record { in_range = h.in_range; distinct = h.distinct; bounds = λ lt. h.bounds }) formed.rules);
      short = rw all short;
      counted = record {
        trues = λ k. rw is_t (counter_zero n k ∙ sym (none_true problem.atoms (constraint_at problem [] k).lits));
        falses = λ k. rw is_f (counter_zero n k ∙ sym (none_false problem.atoms (constraint_at problem [] k).lits));
        trues_number = rw (is_t, all) ((let z : ℕ = 0 in length-replicate n z) ∙ number);
        falses_number = rw (is_f, all) ((let z : ℕ = 0 in length-replicate n z) ∙ number);
      };
      listed = rw all listed;
      split = split_new problem.atoms problem.rules splits lists listed lengths;
      caused = tt;
    }

-- ---- a clause more

pub constraints_push : (problem : Problem) (clauses : List Clause) (c : Clause) → constraints_of problem (clauses ++ c ∷ []) ≡ constraints_of problem clauses ++ rule_of_clause c ∷ []
constraints_push problem clauses c = ap (λ rs. problem.rules ++ rs) (go clauses) ∙ sym (append_assoc problem.rules (map rule_of_clause clauses) (rule_of_clause c ∷ []))
  where
    go : (cs : List Clause) → map rule_of_clause (cs ++ c ∷ []) ≡ map rule_of_clause cs ++ rule_of_clause c ∷ []
    go [] = refl
    go (x ∷ cs) = ap (λ rs. rule_of_clause x ∷ rs) (go cs)

-- earlier constraints stay
pub constraint_before : (problem : Problem) (clauses : List Clause) (c : Clause) (n : ℕ) → n < length (constraints_of problem clauses) → constraint_at problem (clauses ++ c ∷ []) n ≡ constraint_at problem clauses n
constraint_before problem clauses c n lt = rw (constraints_push problem clauses c) (get_or_append_left (constraints_of problem clauses) (rule_of_clause c ∷ []) no_constraint n lt)

get_front : {X : Type 0} (xs ys : List X) (n : ℕ) (x : X) → slice_get xs n ≡ Some x → slice_get (xs ++ ys) n ≡ Some x
get_front [] ys n x e = cc
get_front (y ∷ xs) ys zero x e = e
get_front (y ∷ xs) ys (suc n) x e = get_front xs ys n x e

-- and so do names and causes
named_more : (problem : Problem) (clauses : List Clause) (c : Clause) (h : Hint) (r : CountRule) → IsNamed problem clauses h r → IsNamed problem (clauses ++ c ∷ []) h r
named_more problem clauses c (Rule n) r e = e
named_more problem clauses c (Earlier s) r (k, x, at, step, is) = (k, x, get_front clauses (c ∷ []) k x at, step, is)

caused_one : (problem : Problem) (clauses : List Clause) (c : Clause) (p : PartialAssignment) (l : Lit) (o : Option Hint) → IsCaused problem clauses p l o → IsCaused problem (clauses ++ c ∷ []) p l o
caused_one problem clauses c p l None h = tt
caused_one problem clauses c p l (Some g) (r, named, forces) = (r, named_more problem clauses c g r named, forces)

caused_more : (problem : Problem) (clauses : List Clause) (c : Clause) (es : List Entry) (p : PartialAssignment) → AreCaused problem clauses p es → AreCaused problem (clauses ++ c ∷ []) p es
caused_more problem clauses c [] p h = tt
caused_more problem clauses c (e ∷ es) p h = (h.0, caused_one problem clauses c p e.lit e.cause h.1, caused_more problem clauses c es (with_true p e.lit) h.2)

-- a counter more
module _ (p : PartialAssignment) (rules : List CountRule) (r : CountRule) where
  counters_push : (f : List Lit → ℕ) (xs : List ℕ) (x : ℕ) → length xs ≡ length rules → ((n : ℕ) → counter xs n ≡ f (nth rules n).lits) → x ≡ f r.lits → (n : ℕ) → counter (xs ++ x ∷ []) n ≡ f (nth (rules ++ r ∷ []) n).lits
  counters_push f xs x len h is n = rw (nth_push xs x 0 n, nth_push rules r no_constraint n, len) (go (length rules == n))
    where
      go : (t : Bool) → cond t x (counter xs n) ≡ f (cond t r (nth rules n)).lits
      go true = is
      go false = h n

  counted_push : (ts fs : List ℕ) (t f : ℕ) → AreCounted p rules ts fs → t ≡ trues p r.lits → f ≡ falses p r.lits → AreCounted p (rules ++ r ∷ []) (ts ++ t ∷ []) (fs ++ f ∷ [])
  counted_push ts fs t f h is_t is_f = record {
    trues = counters_push (trues p) ts t h.trues_number h.trues is_t;
    falses = counters_push (falses p) fs f h.falses_number h.falses is_f;
    trues_number = omega (arith, h.trues_number, length-append ts (t ∷ []), length-append rules (r ∷ []));
    falses_number = omega (arith, h.falses_number, length-append fs (f ∷ []), length-append rules (r ∷ []));
  }

module _ (problem : Problem) (clauses : List Clause) (atoms : ℕ) (es : List Entry) (ts fs : List ℕ) (lists : List OccurrenceList) (splits : List ℕ) (h : IsStore problem clauses atoms es ts fs lists splits) where
  -- there is more room alone
  pub store_room : (cs : List Clause) (us gs : List ℕ) (new : List OccurrenceList) → cs ≡ clauses → us ≡ ts → gs ≡ fs → HaveSameItems lists new → length new ≡ length lists → IsStore problem cs atoms es us gs new splits
  store_room cs us gs new is_c is_u is_g same len = rw (is_c, is_u, is_g) made
    where
      made : IsStore problem clauses atoms es ts fs new splits
      made = record {
        atoms_are = h.atoms_are;
        shaped = h.shaped;
        short = h.short;
        counted = h.counted;
        listed = record { atoms_number = len ∙ h.listed.atoms_number; numbers = λ b n a. rw (same a) (h.listed.numbers b n a); below = λ a. rw (same a) (h.listed.below a) };
        split = split_same (length problem.rules) splits lists h.split new same len;
        caused = h.caused;
      }

  pub store_add : (c : Clause) (t f n : ℕ) (cs : List Clause) (us gs : List ℕ) (mid new : List OccurrenceList) → are_within problem.atoms c.lits ≡ true → repeats c.lits ≡ false → length c.lits < 2 ^ 63 → n ≡ length ts
      → t ≡ trues (values_of atoms es) c.lits → f ≡ falses (values_of atoms es) c.lits → cs ≡ clauses ++ c ∷ [] → us ≡ ts ++ t ∷ [] → gs ≡ fs ++ f ∷ []
      → HaveSameItems lists mid → length mid ≡ length lists → length new ≡ length lists → AreEntered mid new n c.lits → IsStore problem cs atoms es us gs new splits
  store_add c t f n cs us gs mid new within distinct few number is_t is_f is_c is_u is_g same mid_len len entered = rw (is_c, is_u, is_g) made
    where
      count : n ≡ length (constraints_of problem clauses)
      count = number ∙ h.counted.trues_number

      later : length problem.rules ≤ n
      later = omega (arith, count, length-append problem.rules (map rule_of_clause clauses))

      made : IsStore problem (clauses ++ c ∷ []) atoms es (ts ++ t ∷ []) (fs ++ f ∷ []) new splits
      made = record {
        atoms_are = h.atoms_are;
        shaped = rw constraints_push (each_push (IsShaped problem.atoms) (constraints_of problem clauses) (rule_of_clause c) h.shaped (record { in_range = within; distinct = distinct; bounds = λ lt. omega arith }));
        short = rw constraints_push (short_push (constraints_of problem clauses) (rule_of_clause c) h.short few);
        counted = rw constraints_push (counted_push (values_of problem.atoms es) (constraints_of problem clauses) (rule_of_clause c) ts fs t f h.counted (rw h.atoms_are at is_t) (rw h.atoms_are at is_f));
        listed = rw constraints_push (listed_push problem.atoms (constraints_of problem clauses) (rule_of_clause c) lists mid new h.listed same (len ∙ h.listed.atoms_number) (rw count at entered));
        split = split_enter (length problem.rules) splits mid (split_same (length problem.rules) splits lists h.split mid same mid_len) n c.lits new entered later (len ∙ sym mid_len);
        caused = caused_more problem clauses c es (replicate problem.atoms None) h.caused;
      }
