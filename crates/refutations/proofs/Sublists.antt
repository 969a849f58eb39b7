-- The steps of a set that is closed under hints: renumbered, they are accepted.
use Rattle.std.proofs.Common.{◌≡◌, ℕ, zero, suc, ◌+◌, ◌-◌, ◌≤◌, ◌<◌, Bool, true, false, cond, List, [], ◌∷◌, ◌++◌, length, take, drop, refl, sym, ap, ◌∙◌, arith, Some, slice_get, subst}
use Rattle.std.specs.Prelude.{map, count_by, ◌==◌}
use Rattle.std.specs.List.{list_any, AllByRecursion as Each}
use Rattle.std.proofs.lemmas.List.{take-append-le, length-append, append-nil, append_assoc}
use Rattle.std.proofs.lemmas.Bool.Decides.{Decides-eqb}
use Rattle.std.proofs.lemmas.Option.{slice_get_within}
use Rattle.count_core.specs.declared.count_rule.CountRule.{CountRule}
use Rattle.count_core.specs.declared.hint.Hint.{Hint}
use Rattle.count_core.specs.declared.hint.Hint.TheVariants.{Rule, Step as Earlier}
use Rattle.count_core.specs.declared.step.Step.{Step}
use Rattle.count_core.specs.Problems.{Problem}
use Rattle.count_core.specs.Steps.{rule_at, IsAccepted, AreAcceptedAfter, AreAccepted}
use Rattle.count_core.proofs.Lists.{count_cons, get_middle}
use Rattle.count_core.proofs.Renumbering.{mapped_name_the_same, accepted_moved, step_named}
use Rattle.refutations.specs.Derivations.{clause_of, clause_at, last_clause, IsLemma}
use Rattle.refutations.specs.EarlierSteps.{IsBelow, ArePlaces, by_place, by_places}
use Rattle.refutations.specs.Cones.{is_to, Names, itself, onward, is_in, number_below, placed_hint, placed_step, sublist, IsCone}
use Rattle.refutations.proofs.LastSteps.{step_there}
use Rattle.refutations.proofs.Marking.{or_right}

-- ---- places

count_next : (b : Bool) (bs : List Bool) → count_by (λ x. x) (b ∷ bs) ≡ cond b 1 0 + count_by (λ x. x) bs
count_next b bs = count_cons (λ x. x) b bs

-- the step at a place of a set stands in the sublist, after those before it
sublist_at : (all marks : List Bool) (steps : List Step) (m : ℕ) (t : Step) → slice_get marks m ≡ Some true → slice_get steps m ≡ Some t → slice_get (sublist all marks steps) (number_below marks m) ≡ Some (placed_step all t)
sublist_at all [] steps m t e f = cc
sublist_at all (b ∷ marks) [] m t e f = cc
sublist_at all (true ∷ marks) (s ∷ steps) zero t e f = let same : s ≡ t = cc in ap (λ x. Some (placed_step all x)) same
sublist_at all (false ∷ marks) (s ∷ steps) zero t e f = cc
sublist_at all (true ∷ marks) (s ∷ steps) (suc m) t e f =
    let next : number_below (true ∷ marks) (suc m) ≡ suc (number_below marks m) = omega (arith, count_next true (take m marks)) in
    rw next (sublist_at all marks steps m t e f)
sublist_at all (false ∷ marks) (s ∷ steps) (suc m) t e f =
    let next : number_below (false ∷ marks) (suc m) ≡ number_below marks m = omega (arith, count_next false (take m marks)) in
    rw next (sublist_at all marks steps m t e f)

sublist_length : (all marks : List Bool) (steps : List Step) → length marks ≤ length steps → length (sublist all marks steps) ≡ count_by (λ x. x) marks
sublist_length all [] steps le = refl
sublist_length all (b ∷ marks) [] le = absurd (omega arith)
sublist_length all (true ∷ marks) (s ∷ steps) le = omega (arith, count_next true marks, sublist_length all marks steps (omega arith))
sublist_length all (false ∷ marks) (s ∷ steps) le = omega (arith, count_next false marks, sublist_length all marks steps (omega arith))

sublist_end : (all marks : List Bool) (steps : List Step) (b : Bool) (s : Step) → length marks ≡ length steps → sublist all (marks ++ b ∷ []) (steps ++ s ∷ []) ≡ sublist all marks steps ++ sublist all (b ∷ []) (s ∷ [])
sublist_end all [] [] b s e = refl
sublist_end all [] (t ∷ steps) b s e = absurd (omega arith)
sublist_end all (a ∷ marks) [] b s e = absurd (omega arith)
sublist_end all (true ∷ marks) (t ∷ steps) b s e = ap (λ xs. placed_step all t ∷ xs) (sublist_end all marks steps b s (omega arith))
sublist_end all (false ∷ marks) (t ∷ steps) b s e = sublist_end all marks steps b s (omega arith)

-- ---- hints into the set

abbrev InSet : List Bool → Hint → Type 0
InSet all (Rule n) = Unit {0}
InSet all (Earlier n) = is_in all n ≡ true

each_in_set : (all : List Bool) (hs : List Hint) → ((m : ℕ) → list_any (is_to m) hs ≡ true → is_in all m ≡ true) → Each (InSet all) hs
each_in_set all [] h = tt
each_in_set all (Rule n ∷ hs) h = (tt, each_in_set all hs h)
each_in_set all (Earlier n ∷ hs) h =
    let yes : (n == n) ≡ true = (Decides-eqb n n).1 refl in
    (h n (rw yes), each_in_set all hs (λ m e. h m (or_right (n == m) (list_any (is_to m) hs) e)))

front_in : (ones twos : List Bool) (m : ℕ) → m < length ones → is_in (ones ++ twos) m ≡ true → slice_get ones m ≡ Some true
front_in [] twos m lt e = absurd (omega arith)
front_in (b ∷ ones) twos zero lt e = ap Some e
front_in (b ∷ ones) twos (suc m) lt e = front_in ones twos m (omega arith) e

module _ (problem : Problem) (ones twos : List Bool) (one : List Step) (same : length ones ≡ length one) where
  names_kept : (h : Hint) → InSet (ones ++ twos) h → (r : CountRule) → rule_at problem one h ≡ Some r → rule_at problem (sublist (ones ++ twos) ones one) (placed_hint (ones ++ twos) h) ≡ Some r
  names_kept (Rule n) is r e = e
  names_kept (Earlier n) is r e = step_named problem one (sublist (ones ++ twos) ones one) n (number_below (ones ++ twos) n) kept r e
    where
      kept : (s : Step) → slice_get one n ≡ Some s → (t : Step) × (slice_get (sublist (ones ++ twos) ones one) (number_below (ones ++ twos) n) ≡ Some t) × (t.clause ≡ s.clause)
      kept s at =
          let lt : n < length one = slice_get_within one n s at in
          let below : number_below (ones ++ twos) n ≡ number_below ones n = ap (count_by (λ x. x)) (take-append-le n ones twos (omega arith)) in
          (placed_step (ones ++ twos) s, rw below (sublist_at (ones ++ twos) ones one n s (front_in ones twos n (omega arith) is) at), refl)

  each_kept : (hs : List Hint) → Each (InSet (ones ++ twos)) hs → Each (λ h. (r : CountRule) → rule_at problem one h ≡ Some r → rule_at problem (sublist (ones ++ twos) ones one) (placed_hint (ones ++ twos) h) ≡ Some r) hs
  each_kept [] h = tt
  each_kept (x ∷ hs) h = (names_kept x h.0, each_kept hs h.1)

  step_kept : (s : Step) → Each (InSet (ones ++ twos)) s.hints → IsAccepted problem one s → IsAccepted problem (sublist (ones ++ twos) ones one) (placed_step (ones ++ twos) s)
  step_kept s h e =
      accepted_moved problem one (sublist (ones ++ twos) ones one) s (map (placed_hint (ones ++ twos)) s.hints)
      (mapped_name_the_same (rule_at problem one) (rule_at problem (sublist (ones ++ twos) ones one)) (placed_hint (ones ++ twos)) s.hints (each_kept s.hints h)) e

-- ---- the whole sublist

middle_in : (xs : List Bool) (ys : List Bool) → is_in (xs ++ true ∷ ys) (length xs) ≡ true
middle_in [] ys = refl
middle_in (x ∷ xs) ys = middle_in xs ys

-- what a step of the set names is in the set
abbrev pub IsClosed : List Bool → List Step → Type 0
IsClosed all steps = (n m : ℕ) → is_in all n ≡ true → Names steps n m → is_in all m ≡ true

-- the steps of a closed set, renumbered, are accepted one after the other
pub kept_after : (problem : Problem) (all : List Bool) (steps : List Step) → IsClosed all steps → (ones twos : List Bool) (one two : List Step) → ones ++ twos ≡ all → one ++ two ≡ steps → length ones ≡ length one → AreAcceptedAfter problem one two → AreAcceptedAfter problem (sublist all ones one) (sublist all twos two)
kept_after problem all steps closed ones [] one two is are same h = tt
kept_after problem all steps closed ones (b ∷ twos) one [] is are same h = tt
kept_after problem all steps closed ones (true ∷ twos) one (s ∷ two) is are same h =
    let at : slice_get steps (length ones) ≡ Some s = ap (λ xs. slice_get xs (length ones)) (sym are) ∙ ap (slice_get (one ++ s ∷ two)) same ∙ get_middle one s two in
    let yes : is_in all (length ones) ≡ true = ap (λ xs. is_in xs (length ones)) (sym is) ∙ middle_in ones twos in
    let inside : Each (InSet all) s.hints = each_in_set all s.hints (λ m any. closed (length ones) m yes (s, at, any)) in
    let here : IsAccepted problem (sublist all ones one) (placed_step all s) = subst (λ a. Each (InSet a) s.hints → IsAccepted problem (sublist a ones one) (placed_step a s)) is (λ e. step_kept problem ones (true ∷ twos) one same s e h.0) inside in
    let rest = kept_after problem all steps closed (ones ++ true ∷ []) twos (one ++ s ∷ []) two (append_assoc ones (true ∷ []) twos ∙ is) (append_assoc one (s ∷ []) two ∙ are) (omega (arith, length-append ones (true ∷ []), length-append one (s ∷ []))) h.1 in
    (here, subst (λ e. AreAcceptedAfter problem e (sublist all twos two)) (sublist_end all ones one true s same) rest)
kept_after problem all steps closed ones (false ∷ twos) one (s ∷ two) is are same h =
    let rest = kept_after problem all steps closed (ones ++ false ∷ []) twos (one ++ s ∷ []) two (append_assoc ones (false ∷ []) twos ∙ is) (append_assoc one (s ∷ []) two ∙ are) (omega (arith, length-append ones (false ∷ []), length-append one (s ∷ []))) h.1 in
    subst (λ e. AreAcceptedAfter problem e (sublist all twos two)) (sublist_end all ones one false s same ∙ append-nil (sublist all ones one)) rest

-- ---- cones

reached_closed : (steps : List Step) (from : ℕ) (cone : List Step) (c : IsCone steps from cone) → IsClosed c.reached steps
reached_closed steps from cone c n m e names = (c.exactly m).1 (onward n m ((c.exactly n).0 e) names)

last_in : (marks : List Bool) (n : ℕ) → length marks ≡ n + 1 → is_in marks n ≡ true → (slice_get marks n ≡ Some true) × (count_by (λ x. x) marks ≡ suc (number_below marks n))
last_in [] n len e = cc
last_in (b ∷ []) zero len e = (ap Some e, count_next b [] ∙ ap (λ x. cond x 1 0 + 0) e)
last_in (b ∷ c ∷ marks) zero len e = absurd (omega arith)
last_in (b ∷ marks) (suc n) len e =
    let r = last_in marks n (omega arith) e in
    (r.0, omega (arith, r.1, count_next b marks, count_next b (take n marks)))

-- The cone of a step of an accepted list is accepted, and ends with that step's clause.
pub cone_lemma : (problem : Problem) (steps : List Step) (from : ℕ) (cone : List Step) → AreAccepted problem steps → from < length steps → IsCone steps from cone → IsLemma problem cone × (last_clause cone ≡ clause_at steps from)
cone_lemma problem steps from cone h lt c =
    let accepted : AreAccepted problem (sublist c.reached c.reached steps) = kept_after problem c.reached steps (reached_closed steps from cone c) [] c.reached [] steps refl refl refl h in
    let there = step_there steps from lt in
    let last = last_in c.reached from c.up_to ((c.exactly from).1 itself) in
    let len = sublist_length c.reached c.reached steps (omega (arith, c.up_to)) in
    let less : length (sublist c.reached c.reached steps) - 1 ≡ number_below c.reached from = omega (arith, len, last.1) in
    let at : slice_get (sublist c.reached c.reached steps) (length (sublist c.reached c.reached steps) - 1) ≡ Some (placed_step c.reached there.0) = rw less (sublist_at c.reached c.reached steps from there.0 last.0 there.1) in
    let ends : last_clause (sublist c.reached c.reached steps) ≡ clause_at steps from = ap clause_of at ∙ sym (ap clause_of there.1) in
    (record { accepted = subst (AreAccepted problem) (sym c.in_order) accepted; some = rw c.in_order (omega (arith, len, last.1)) }, subst (λ xs. last_clause xs ≡ clause_at steps from) (sym c.in_order) ends)

-- ---- hints by a table of places

by_place_is : (set : List Bool) (places : List ℕ) (hs : List Hint) → ArePlaces set places → Each (IsBelow (length set)) hs → map (by_place places) hs ≡ map (placed_hint set) hs
by_place_is set places [] h e = refl
by_place_is set places (Rule n ∷ hs) h e = ap (λ gs. Rule n ∷ gs) (by_place_is set places hs h e.1)
by_place_is set places (Earlier n ∷ hs) h e = rw (h.each n e.0) (ap (λ gs. Earlier (number_below set n) ∷ gs) (by_place_is set places hs h e.1))

-- places by a table are the places in the set
pub by_places_is : (set : List Bool) (places : List ℕ) (s : Step) → ArePlaces set places → Each (IsBelow (length set)) s.hints → by_places places s ≡ placed_step set s
by_places_is set places s h e = ap (λ hs. record { clause = s.clause; hints = hs }) (by_place_is set places s.hints h e)

-- ---- one turn of the loop over the marks

sublist_yes : (all marks : List Bool) (steps : List Step) (i : ℕ) (s : Step) → slice_get marks i ≡ Some true → slice_get steps i ≡ Some s → sublist all (drop i marks) (drop i steps) ≡ placed_step all s ∷ sublist all (drop (i + 1) marks) (drop (i + 1) steps)
sublist_yes all [] steps i s e f = cc
sublist_yes all (b ∷ marks) [] i s e f = cc
sublist_yes all (true ∷ marks) (t ∷ steps) zero s e f = let same : t ≡ s = cc in ap (λ x. placed_step all x ∷ sublist all marks steps) same
sublist_yes all (false ∷ marks) (t ∷ steps) zero s e f = cc
sublist_yes all (b ∷ marks) (t ∷ steps) (suc i) s e f = let one : suc i + 1 ≡ suc (i + 1) = omega arith in rw one (sublist_yes all marks steps i s e f)

sublist_no : (all marks : List Bool) (steps : List Step) (i : ℕ) (s : Step) → slice_get marks i ≡ Some false → slice_get steps i ≡ Some s → sublist all (drop i marks) (drop i steps) ≡ sublist all (drop (i + 1) marks) (drop (i + 1) steps)
sublist_no all [] steps i s e f = cc
sublist_no all (b ∷ marks) [] i s e f = cc
sublist_no all (true ∷ marks) (t ∷ steps) zero s e f = cc
sublist_no all (false ∷ marks) (t ∷ steps) zero s e f = refl
sublist_no all (b ∷ marks) (t ∷ steps) (suc i) s e f = let one : suc i + 1 ≡ suc (i + 1) = omega arith in rw one (sublist_no all marks steps i s e f)

-- a step of the set is kept
pub kept_yes : (all marks : List Bool) (steps kept whole : List Step) (i : ℕ) (s t : Step) → slice_get marks i ≡ Some true → slice_get steps i ≡ Some s → t ≡ placed_step all s → kept ++ sublist all (drop i marks) (drop i steps) ≡ whole → (kept ++ t ∷ []) ++ sublist all (drop (i + 1) marks) (drop (i + 1) steps) ≡ whole
kept_yes all marks steps kept whole i s t e f is h = append_assoc kept (t ∷ []) (sublist all (drop (i + 1) marks) (drop (i + 1) steps)) ∙ ap (λ x. kept ++ x ∷ sublist all (drop (i + 1) marks) (drop (i + 1) steps)) is ∙ ap (λ xs. kept ++ xs) (sym (sublist_yes all marks steps i s e f)) ∙ h

-- another is not
pub kept_no : (all marks : List Bool) (steps kept whole : List Step) (i : ℕ) (s : Step) → slice_get marks i ≡ Some false → slice_get steps i ≡ Some s → kept ++ sublist all (drop i marks) (drop i steps) ≡ whole → kept ++ sublist all (drop (i + 1) marks) (drop (i + 1) steps) ≡ whole
kept_no all marks steps kept whole i s e f h = ap (λ xs. kept ++ xs) (sym (sublist_no all marks steps i s e f)) ∙ h
